use Rattle.std.proofs.Common.{ℕ, List, ◌∙◌, ap, sym, map}
use Rattle.std.specs.Borrow.{Bor}
use Rattle.std.proofs.lemmas.List.{map_push}
use Rattle.std.proofs.lemmas.Iterator.Consumers.{YieldsList-at, YieldsList-end}
use Rattle.std.proofs.lemmas.Iterator.Splits.{YieldsList-from_lines}
use Rattle.base_files.specs.Bytes.{Bytes}
use Rattle.rustc_texts.specs.Outputs.{each_once, with_name}
use Rattle.rustc_texts.proofs.EachOnce.{once-more}
use Rattle.rustc_texts.proofs.output_names.named.Goals as goal

pub loop-line-preserved : goal.loop-line-preserved
loop-line-preserved c =
    let seen = λ (line : Bor (List ℕ)). line.now in
    record {
      names =
          c.in_ok-add_name.ensures.names
          ∙ ap (λ (names : List Bytes). with_name names c.in_ok-name.name) c.loop-line.invariant.names
          ∙ ap (with_name (each_once (map seen c.loop-line.yielded))) (c.in_ok-name.ensures ∙ c.as_bytes.ensures.value)
          ∙ sym (once-more (map seen c.loop-line.yielded) c.in-Some.line.now)
          ∙ ap each_once (sym (map_push seen c.loop-line.yielded c.in-Some.line));
      told = c.in_ok-add_name.ensures.told;
    }

pub returns : goal.returns
returns c =
    let done =
    YieldsList-end
    (YieldsList-at c.into_iter-line-iterator.ensures.into_iter_gives
    (YieldsList-from_lines c.args.text.now c.lines-line-items.ensures.rest))
    c.loop-line.yielded _ c.loop-line.yielded_by _ _ c.in-None.is c.next.ensures.steps in
    c.loop-line.invariant.names ∙ ap each_once done.0
