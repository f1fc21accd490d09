use Rattle.std.proofs.Common.{List, length, drop, arith, sym, subst}
use Rattle.std.specs.Prelude.{ℤ}
use Rattle.pf_preflow.specs.Network.{flow_network}
use Rattle.pf_preflow.specs.State.{IsExcess}
use Rattle.pf_preflow.proofs.Counting.{counted_none}
use Rattle.pf_preflow.proofs.discharge.run.Goals as goal
use Rattle.pf_model.proofs.Facts.{lent_back}

pub relabel_if_new-requires-clause-state : goal.relabel_if_new-requires-clause-state
relabel_if_new-requires-clause-state g c =
    let e = lent_back c.args.room.now.excess.len c.fill_excess.new.excess (drop (length c.fill_excess.new.excess) c.args.room.now.excess.items)
    (omega (arith, c.args.room.now.excess.ok.0, c.fill_excess.auto.excess, c.as_mut_slice.ensures.len)) in
    let P : List ℤ → Type 0 = λ xs. IsExcess (flow_network c.args.net) c.args.flow.now xs in
    record {
      preflow = c.requires.preflow;
      valid = c.requires.valid;
      low = c.requires.low;
      excess = subst P (sym e) (c.fill_excess.ensures c.args.net.caps.now c.args.net.source c.args.net.sink);
    }

pub returns-clause-counted : goal.returns-clause-counted
returns-clause-counted g c =
    c.discharge.ensures.counted c.args.labels.now c.args.steps.now
    (c.relabel_if_new.ensures.state.counted c.args.labels.now c.args.steps.now (counted_none c.args.labels.now c.args.steps.now))
