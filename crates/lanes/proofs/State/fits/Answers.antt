-- `lanes::State::fits` meets its contract: what the check does not find alone.
use Rattle.std.proofs.Common.{take, arith, rules}
use Rattle.std.proofs.lemmas.Iterator.{YieldsList-from_slice}
use Rattle.std.proofs.lemmas.Iterator.Search.{all_from_yields_List}
use borrow.Author.Tests.{tests}
use Rattle.lanes.specs.Ranges.{lane_fits}
use Rattle.lanes.specs.Scan.{few_lanes, passed_list}
use Rattle.lanes.proofs.State.fits.Goals as goal

pub returns-then-sizes_fit : goal.returns-then-sizes_fit
returns-then-sizes_fit c =
    let s = c.args.self.now in
    let few = few_lanes s _ c.sizes_fit.ensures c.if-sizes_fit.true in
    passed_list s _ _ c.sizes_fit.ensures c.if-sizes_fit.true (omega arith)
    (all_from_yields_List (lane_fits s.terms) _ _ c.all.result c.all.ensures.ran (YieldsList-from_slice (take s.terms.p s.lanes) cc) (λ x b q k. search (rules, tests)))
