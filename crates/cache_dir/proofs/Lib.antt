mod TakenSums
