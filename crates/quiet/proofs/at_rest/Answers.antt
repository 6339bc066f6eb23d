-- `quiet::at_rest` meets its contract: what the check does not find alone.
use Rattle.std.proofs.Common.{take, ◌∙◌, arith, rules}
use Rattle.std.proofs.lemmas.List.{length-take}
use Rattle.std.proofs.lemmas.Iterator.{YieldsList-from_slice}
use Rattle.std.proofs.lemmas.Iterator.Search.{all_from_yields_List}
use borrow.Author.Tests.{tests}
use Rattle.lanes.specs.declared.Lane.{Lane}
use Rattle.lanes.specs.Ranges.{idle}
use Rattle.lanes.specs.Laws.{sized, sizes_of}
use Rattle.quiet.proofs.QuietLaws.{calm_first}
use Rattle.quiet.proofs.at_rest.Goals as goal

pub returns : goal.returns
returns c =
    let s = c.args.s.now in
    let few = (sized s.terms s.top (sizes_of s c.requires)).p_high in
    all_from_yields_List (λ (l : Lane). idle l.op) _ _ c.all.result c.all.ensures.ran (YieldsList-from_slice (take s.terms.p s.lanes) cc) (λ x b q k. search (rules, tests))
    ∙ calm_first s s.terms.p (omega (arith, length-take s.terms.p s.lanes))
