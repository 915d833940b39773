-- The first place of a separator.
use Rattle.std.proofs.Common.{◌≡◌, ℕ, ◌≤◌, ◌<◌, ◌++◌, length, drop, None, Some, arith, ◌⊎◌, inl, inr, refl, ap, sym, subst, ◌∙◌, string_bytes}
use Rattle.std.specs.Borrow.{Bor}
use Rattle.std.specs.Str.Pattern.{FindsText, SplitsAroundMatch}
use Rattle.std.proofs.lemmas.List.{drop_at}
use Rattle.std.proofs.lemmas.Str.Pattern.{split_text_parts}
use Rattle.base_files.specs.Bytes.{Bytes}
use Rattle.cmdlines_base.specs.Texts.{Text}
use Rattle.cmdlines_base.specs.Splitting.{IsSplit}

either_order : (a b : ℕ) → (a ≤ b) ⊎ (b < a)
either_order a b = grind arith

-- No separator begins before the place that was found.
found-first : (separator word : Bytes) (i j : ℕ) → FindsText separator word (Some (i, j)) → (front back : Bytes) → word ≡ front ++ (separator ++ back) → i ≤ length front
found-first separator word i j found front back e = by (either_order i (length front))
  where
    by : ((i ≤ length front) ⊎ (length front < i)) → i ≤ length front
    by (inl h) = h
    by (inr h) = absurd (found.0 (length front) h back (ap (drop (length front)) e ∙ drop_at front (separator ++ back) (length front) refl))

module _ (separator word text : Bytes) (same : text ≡ word) where
  pub not-split : (before : Text) → string_bytes before ≡ text → FindsText separator text None → IsSplit separator word before None
  not-split before is h = (is ∙ same, λ front back e. split_text_parts separator text None h front back (same ∙ e))

  pub split-in-two : (before after : Text) (x y : Bor Bytes) → string_bytes before ≡ x.now → string_bytes after ≡ y.now → SplitsAroundMatch (FindsText separator) text x.now y.now → IsSplit separator word before (Some after)
  split-in-two before after x y is are h =
      let parts : text ≡ x.now ++ (separator ++ y.now) = split_text_parts separator text (Some (x, y)) h in
      let long : length (string_bytes before) ≡ h.0 = ap length is ∙ h.6 in
      (sym same ∙ parts ∙ rw (is, are) refl, λ front back e. subst (λ n. n ≤ length front) (sym long) (found-first separator text h.0 h.1 h.2 front back (same ∙ e)))
