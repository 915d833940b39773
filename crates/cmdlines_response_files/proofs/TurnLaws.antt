-- In how many turns words are opened: one for each word, and one for the end of each file.
use Rattle.std.proofs.Common.{◌≡◌, ℕ, zero, suc, ◌+◌, ◌<◌, List, [], ◌∷◌, Option, None, Some, length, refl, sym, ap, ◌∙◌, arith}
use Rattle.base_files.specs.Bytes.{Bytes}
use Rattle.base_files.specs.Tree.{Tree}
use Rattle.cmdlines_response_files.specs.Closed.{without}
use Rattle.cmdlines_response_files.specs.Expansion.{opened_by}
use Rattle.cmdlines_response_files.specs.Styles.{path_of}
use Rattle.cmdlines_response_files.specs.declared.opening.Opened.{Opened}
use Rattle.cmdlines_response_files.specs.declared.style.Style.{Style}
use Rattle.cmdlines_response_files.proofs.DepthLaws.{opens_less}

-- the turns of a word, and those of the file that it opens
abbrev pub turns_at : (Tree → List Bytes → ℕ) → Tree → Option Opened → ℕ
turns_at count closed None = 1
turns_at count closed (Some opened) = 2 + count (without opened.name closed) opened.words

module _ (style : Style) (dir : Bytes) where
  -- the turns of each word, summed
  abbrev pub sum_turns : (Tree → List Bytes → ℕ) → Tree → List Bytes → ℕ
  sum_turns count closed [] = 0
  sum_turns count closed (word ∷ words) = turns_at count closed (opened_by style dir closed word) + sum_turns count closed words

  -- at most so many files deep
  unfoldable pub turns_deep : ℕ → Tree → List Bytes → ℕ
  turns_deep zero closed words = 0
  turns_deep (suc depth) closed words = sum_turns (turns_deep depth) closed words

  unfoldable pub turns : Tree → List Bytes → ℕ
  turns closed words = turns_deep (suc (length closed)) closed words

  -- two ways to count that agree on fewer files agree
  same_at : (f g : Tree → List Bytes → ℕ) (closed : Tree) → ((fewer : Tree) → length fewer < length closed → (words : List Bytes) → f fewer words ≡ g fewer words) → (word : Bytes) (o : Option Opened) → opened_by style dir closed word ≡ o → turns_at f closed o ≡ turns_at g closed o
  same_at f g closed h word None e = refl
  same_at f g closed h word (Some opened) e = ap (λ n. 2 + n) (h (without opened.name closed) (opens_less style closed (path_of style dir word) opened e) opened.words)

  same_sum : (f g : Tree → List Bytes → ℕ) (closed : Tree) → ((fewer : Tree) → length fewer < length closed → (words : List Bytes) → f fewer words ≡ g fewer words) → (words : List Bytes) → sum_turns f closed words ≡ sum_turns g closed words
  same_sum f g closed h [] = refl
  same_sum f g closed h (word ∷ words) =
      ap (λ n. n + sum_turns f closed words) (same_at f g closed h word (opened_by style dir closed word) refl)
      ∙ ap (λ n. turns_at g closed (opened_by style dir closed word) + n) (same_sum f g closed h words)

  -- two depths that are enough count the same
  same_turns : (m n : ℕ) (closed : Tree) → length closed < m → length closed < n → (words : List Bytes) → turns_deep m closed words ≡ turns_deep n closed words
  unfolding turns_deep
  same_turns zero n closed p q words = absurd (omega arith)
  same_turns (suc m) zero closed p q words = absurd (omega arith)
  same_turns (suc m) (suc n) closed p q words = same_sum (turns_deep m) (turns_deep n) closed (λ fewer less ws. same_turns m n fewer (omega arith) (omega arith) ws) words

  turns-sum : (closed : Tree) (words : List Bytes) → turns closed words ≡ sum_turns turns closed words
  unfolding turns turns_deep
  turns-sum closed words = same_sum (turns_deep (length closed)) turns closed (λ fewer less ws. same_turns (length closed) (suc (length fewer)) fewer less (omega arith) ws) words

  pub turns-nil : (closed : Tree) → turns closed [] ≡ 0
  turns-nil closed = turns-sum closed []

  pub turns-cons : (closed : Tree) (word : Bytes) (words : List Bytes) → turns closed (word ∷ words) ≡ turns_at turns closed (opened_by style dir closed word) + turns closed words
  turns-cons closed word words = turns-sum closed (word ∷ words) ∙ ap (λ n. turns_at turns closed (opened_by style dir closed word) + n) (sym (turns-sum closed words))

  pub turns-one : (closed : Tree) (word : Bytes) → turns closed (word ∷ []) ≡ turns_at turns closed (opened_by style dir closed word)
  turns-one closed word = let none = turns-nil closed in let one = turns-cons closed word [] in omega (arith, none, one)
