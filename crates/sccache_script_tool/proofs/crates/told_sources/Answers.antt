use Rattle.std.proofs.Common.{◌≡◌, Bool, true, false, List, Option, None, Some, refl, ap, subst}
use Rattle.std.specs.Prelude.{IfSome, IsPermutation}
use Rattle.std.specs.Cmp.{IsTotalOrder}
use Rattle.std.specs.List.Sorted.{IsSorted}
use Rattle.std.specs.Option.{option_map}
use Rattle.std.specs.Str.{IsUtf8, is_utf8}
use Rattle.std.specs.declared.cmp.Ordering.TheVariants.{Equal}
use Rattle.std.proofs.lemmas.Str.{IsUtf8-from_is_utf8, is_utf8-from_IsUtf8}
use Rattle.base_files.specs.Bytes.{Bytes}
use Rattle.base_files.specs.Path.{path_cmp}
use Rattle.rustc_options.specs.Sorted.{sorted_by}
use Rattle.rustc_options.specs.SortedLaws.{sorted_is}
use Rattle.rustc_texts.specs.DepInfo.{sources_of}
use Rattle.sccache_script_tool.specs.ScriptedCrates.{told_sources}
use Rattle.sccache_script_tool.proofs.crates.told_sources.Goals as goal

-- what isn't UTF-8 gives no sources
none_told : (dir text : Bytes) → (IsUtf8 text → ⊥) → None ≡ told_sources dir text
none_told dir text other = by (is_utf8 text) refl
  where
    by : (b : Bool) → is_utf8 text ≡ b → None ≡ told_sources dir text
    by true e = absurd (other (IsUtf8-from_is_utf8 text e))
    by false e = rw e refl

-- sources that are found and sorted are those that are reported
found_in_order : IsTotalOrder path_cmp → ((x y : Bytes) → path_cmp x y ≡ Equal → x ≡ y) → (ys : List Bytes) (found : Option (List Bytes)) → (found ≡ None → ⊥) → IfSome found (λ zs. IsPermutation zs ys) → IsSorted path_cmp ys → Some ys ≡ option_map (sorted_by path_cmp) found
found_in_order total ties ys None there same sorted = absurd (there refl)
found_in_order total ties ys (Some zs) there same sorted = ap Some (sorted_is path_cmp total ties zs ys same sorted)

pub returns-in_default : goal.returns-in_default
returns-in_default c = none_told c.args.dir.now c.args.text.now c.in_default.ensures.cases.0

pub returns-in-Ok-parse_dep_info : goal.returns-in-Ok-parse_dep_info
returns-in-Ok-parse_dep_info c =
    let text = c.in-Ok.ensures.cases in
    let order = c.paths_have_one_order.ensures in
    let got = c.in-Ok-parse_dep_info.ensures in
    let sources = c.in-Ok-parse_dep_info.sources in
    let dir = c.args.dir.now in
    rw (is_utf8-from_IsUtf8 c.args.text.now text.1)
    (subst (λ (t : Bytes). Some sources ≡ option_map (sorted_by path_cmp) (sources_of dir t)) text.0
    (found_in_order order.total order.ties sources (sources_of dir c.in-Ok.text.now) (λ e. absurd (let never = got.no_rule.1 e in cc)) got.same got.sorted))
