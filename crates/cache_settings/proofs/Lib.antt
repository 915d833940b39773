mod NumberLemmas
