-- Parts that are added one after another.
use Rattle.std.proofs.Common.{◌≡◌, ◌++◌, append_assoc, ap, ◌∙◌}
use Rattle.base_files.specs.Bytes.{Bytes}

pub five_parts : (old a b c d e one two three four five : Bytes) → one ≡ old ++ a → two ≡ one ++ b → three ≡ two ++ c → four ≡ three ++ d → five ≡ four ++ e → five ≡ old ++ (a ++ (b ++ (c ++ (d ++ e))))
five_parts old a b c d e one two three four five p q r s t =
    t ∙ ap (λ (x : Bytes). x ++ e) (s ∙ ap (λ (x : Bytes). x ++ d) (r ∙ ap (λ (x : Bytes). x ++ c) (q ∙ ap (λ (x : Bytes). x ++ b) p))) ∙ simp append_assoc

pub six_parts : (old a b c d e f one two three four five six : Bytes) → one ≡ old ++ a → two ≡ one ++ b → three ≡ two ++ c → four ≡ three ++ d → five ≡ four ++ e → six ≡ five ++ f → six ≡ old ++ (a ++ (b ++ (c ++ (d ++ (e ++ f)))))
six_parts old a b c d e f one two three four five six p q r s t u =
    u ∙ ap (λ (x : Bytes). x ++ f) (t ∙ ap (λ (x : Bytes). x ++ e) (s ∙ ap (λ (x : Bytes). x ++ d) (r ∙ ap (λ (x : Bytes). x ++ c) (q ∙ ap (λ (x : Bytes). x ++ b) p)))) ∙ simp append_assoc

pub ten_parts : (old a b c d e f g h i j one two three four five six seven eight nine ten : Bytes) → one ≡ old ++ a → two ≡ one ++ b → three ≡ two ++ c → four ≡ three ++ d → five ≡ four ++ e → six ≡ five ++ f → seven ≡ six ++ g → eight ≡ seven ++ h → nine ≡ eight ++ i → ten ≡ nine ++ j → ten ≡ old ++ (a ++ (b ++ (c ++ (d ++ (e ++ (f ++ (g ++ (h ++ (i ++ j)))))))))
ten_parts old a b c d e f g h i j one two three four five six seven eight nine ten p1 p2 p3 p4 p5 p6 p7 p8 p9 p10 =
    five_parts five f g h i j six seven eight nine ten p6 p7 p8 p9 p10 ∙ ap (λ (x : Bytes). x ++ (f ++ (g ++ (h ++ (i ++ j))))) (five_parts old a b c d e one two three four five p1 p2 p3 p4 p5) ∙ simp append_assoc
