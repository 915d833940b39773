-- Parts in a row.
use Rattle.std.proofs.Common.{◌≡◌, List, ◌∷◌, ◌++◌, map, Option, None, Some, refl, ap, append_assoc}
use Rattle.std.specs.Option.{option_map}
use Rattle.base_files.specs.Bytes.{Bytes}
use Rattle.sccache_script_tool.specs.Lines.{lines}
use Rattle.sccache_script_tool.specs.Texts.{whole}

appended_twice : (before part : Bytes) (rest : Option Bytes) → option_map (λ body. (before ++ part) ++ body) rest ≡ option_map (λ body. before ++ body) (option_map (λ body. part ++ body) rest)
appended_twice before part None = refl
appended_twice before part (Some body) = ap Some (append_assoc before part body)

-- a part that is there, added to what comes before it
whole-step : (before now : Bytes) (part : Option Bytes) (parts : List (Option Bytes)) → Some now ≡ option_map (λ part. before ++ part) part
    → option_map (λ body. now ++ body) (whole parts) ≡ option_map (λ body. before ++ body) (whole (part ∷ parts))
whole-step before now None parts h = cc
whole-step before now (Some part) parts h =
    let same : now ≡ before ++ part = cc in
    rw same (appended_twice before part (whole parts))

-- likewise what replaces a line
pub lines-step : (line_by : Bytes → Option Bytes) (before now line rest others : Bytes) → lines rest ≡ line ∷ lines others → Some now ≡ option_map (λ part. before ++ part) (line_by line)
    → option_map (λ body. now ++ body) (whole (map line_by (lines others))) ≡ option_map (λ body. before ++ body) (whole (map line_by (lines rest)))
lines-step line_by before now line rest others cut h = rw cut (whole-step before now (line_by line) (map line_by (lines others)) h)
