-- A text on dependencies, rewritten for the targets of another request.
use Rattle.std.specs.Prelude.{ℕ, Bool, ◌==◌, nat_eq, List, [], ◌∷◌, ◌++◌, length, drop, map, codes, Option, if◌then◌else◌}
use Rattle.std.specs.List.{after_first, before_first, flat_map, join_with_byte, starts_with}
use Rattle.std.specs.Option.{option_map}
use Rattle.std.specs.Str.{byte}
use Rattle.base_files.specs.Bytes.{Bytes}
use Rattle.rustc_texts.specs.DepInfo.{after_colon}

abbrev pub is_line_end : ℕ → Bool
is_line_end b = b == byte "\n"

-- a path as a prerequisite, each space with a backslash before it
abbrev pub escaped : Bytes → Bytes
escaped path = flat_map (λ b. if b == byte " " then codes "\\ " else b ∷ []) path

-- the prerequisites of a text, where it names any
abbrev pub where_any : Bytes → List Bytes
where_any old = if length old == 0 then [] else old ∷ []

-- what each target depends on: the extra paths, and then those of the text, with a space between each two
abbrev pub prerequisites : Bytes → List Bytes → Bytes
prerequisites old extras = join_with_byte (byte " ") (map escaped extras ++ where_any old)

-- the rule of a target, which is written as it is, and an empty line
abbrev pub rule_for : Bytes → Bytes → Bytes
rule_for wanted target = target ++ codes ": " ++ wanted ++ codes "\n\n"

-- the rule of a path that depends on nothing
abbrev pub phony_rule : Bytes → Bytes
phony_rule path = path ++ codes ":\n"

-- the text less one line end with which it begins
abbrev pub without_line_end : Bytes → Bytes
without_line_end text = if starts_with nat_eq text (codes "\n") then drop 1 text else text

-- a rule for each target, and one for each extra path
abbrev pub rules_of : Bytes → List Bytes → List Bytes → Bytes
rules_of old targets extras = flat_map (rule_for (prerequisites old extras)) targets ++ flat_map phony_rule (map escaped extras)

-- These rules in place of the first line, whose prerequisites they take, and the text after it: none where that line is no rule.
abbrev pub rewritten_of : Bytes → List Bytes → List Bytes → Option Bytes
rewritten_of text targets extras =
    let rest = without_line_end (after_first is_line_end text) in
    option_map (λ old. rules_of old targets extras ++ rest) (after_colon (before_first is_line_end text))
