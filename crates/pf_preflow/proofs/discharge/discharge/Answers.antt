use Rattle.std.proofs.Common.{List, arith, sym, subst}
use Rattle.std.specs.Prelude.{ℤ}
use Rattle.pf_preflow.specs.Network.{flow_network}
use Rattle.pf_preflow.specs.State.{IsState}
use Rattle.pf_preflow.proofs.Relabel.{finished}
use Rattle.pf_preflow.proofs.discharge.discharge.Goals as goal

pub discharge-init : goal.discharge-init
discharge-init g c =
    let P : List ℤ → Type 0 = λ xs. IsState (flow_network c.args.net) c.args.flow.now c.args.labels.now xs in
    record {
      state = subst P (sym {A = List ℤ} c.next_active-v.ensures.excess) c.requires.state;
      room = c.next_active-v.ensures.room;
      next = c.next_active-v.ensures.next;
      counted = λ start before k. k;
    }

pub push_relabel-requires-clause-active : goal.push_relabel-requires-clause-active
push_relabel-requires-clause-active g c = c.discharge.invariant.next.active (let full = c.discharge.invariant.room.excess in omega (arith, full))

pub same_or_next_active-v-requires-clause-not_source : goal.same_or_next_active-v-requires-clause-not_source
same_or_next_active-v-requires-clause-not_source g c = (c.discharge.invariant.next.active (let full = c.discharge.invariant.room.excess in omega (arith, full))).not_source

pub same_or_next_active-v-requires-clause-not_sink : goal.same_or_next_active-v-requires-clause-not_sink
same_or_next_active-v-requires-clause-not_sink g c = (c.discharge.invariant.next.active (let full = c.discharge.invariant.room.excess in omega (arith, full))).not_sink

pub discharge-preserved : goal.discharge-preserved
discharge-preserved g c =
    let step = c.push_relabel.ensures.step in
    let P : List ℤ → Type 0 = λ xs. IsState (flow_network c.args.net) c.push_relabel.new.flow c.push_relabel.new.labels xs in
    record {
      state = subst P (sym {A = List ℤ} c.same_or_next_active-v.ensures.excess) step.state;
      room = c.same_or_next_active-v.ensures.room;
      next = c.same_or_next_active-v.ensures.next;
      counted = λ start before k. step.counted start before (c.discharge.invariant.counted start before k);
    }

pub discharge-smaller : goal.discharge-smaller
discharge-smaller g c = c.push_relabel.ensures.step.less

pub returns-clause-greatest : goal.returns-clause-greatest
returns-clause-greatest g c =
    let full = c.discharge.invariant.room.excess in
    finished (flow_network c.args.net) c.discharge.flow c.discharge.labels c.discharge.room.excess.items c.requires.proper c.discharge.invariant.state
    (λ u low. c.discharge.invariant.next.none (omega (arith, full)) u (omega (arith, full, low)))
