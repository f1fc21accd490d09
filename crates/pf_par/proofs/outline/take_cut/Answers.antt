use Rattle.std.proofs.Common.{◌≡◌, ◌∙◌, sym, ap, arith}
use Rattle.std.proofs.lemmas.Int.{ints}
use Rattle.std.proofs.lemmas.Result.{err_from_is_err_and}
use Rattle.pf_model.specs.Network.{cut_a, cut_b}
use Rattle.pf_par.proofs.OutlineLemmas.{first_number, second_number, both_numbers, told, not_told, cut_taken}
use Rattle.pf_par.proofs.outline.take_cut.Goals as goal

pub returns-in_err-a-clause-found : goal.returns-in_err-a-clause-found
returns-in_err-a-clause-found c = λ side rest cut e.
    absurd (first_number c.args.net.now side rest c.args.text.now (λ n later. ⊥) c.frame.ensures.built c.in_err-a.ensures.found e)

pub returns-in_err-b-clause-found : goal.returns-in_err-b-clause-found
returns-in_err-b-clause-found c = λ side rest cut e.
    let first = first_number c.args.net.now side rest c.args.text.now (λ n later. (c.in_ok-a.a ≡ n) × (c.take_number.new.text ≡ later)) c.frame.ensures.built c.in_ok-a.ensures.found e in
    absurd (second_number c.args.net.now side rest c.take_number.new.text (λ n later. ⊥) c.frame.ensures.built c.in_err-b.ensures.found first.1)

pub returns-in_err-side-clause-found : goal.returns-in_err-side-clause-found
returns-in_err-side-clause-found c = λ side rest cut e.
    let p = err_from_is_err_and c.from_residual-in_err-side.result c.from_residual-in_err-side.ensures.1 in
    let line = both_numbers c.args.net.now side rest c.args.text.now c.take_number.new.text c.take_number-2.new.text c.in_ok-a.a c.in_ok-b.b c.frame.ensures.built c.in_ok-a.ensures.found c.in_ok-b.ensures.found e in
    let full = cut.full ∙ sym (ap (λ graph. graph.nodes) c.frame.ensures.frame) ∙ sym c.nodes-nodes.ensures.value in
    rw (p.1, p.2) (c.in_err-side.ensures.found side rest full line.behind)

pub returns-then-is_cut_of-clause-found : goal.returns-then-is_cut_of-clause-found
returns-then-is_cut_of-clause-found c = λ side rest cut e.
    let line = both_numbers c.args.net.now side rest c.args.text.now c.take_number.new.text c.take_number-2.new.text c.in_ok-a.a c.in_ok-b.b c.frame.ensures.built c.in_ok-a.ensures.found c.in_ok-b.ensures.found e in
    let full = cut.full ∙ sym (ap (λ graph. graph.nodes) c.frame.ensures.frame) ∙ sym c.nodes-nodes.ensures.value in
    c.in_ok-side.ensures.found side rest full line.behind

-- the test says no, and it is a cut with this line
pub returns-clause-found : goal.returns-clause-found
returns-clause-found c = λ side rest cut e.
    let net = c.args.net.now in
    let line = both_numbers net side rest c.args.text.now c.take_number.new.text c.take_number-2.new.text c.in_ok-a.a c.in_ok-b.b c.frame.ensures.built c.in_ok-a.ensures.found c.in_ok-b.ensures.found e in
    let full = cut.full ∙ sym (ap (λ graph. graph.nodes) c.frame.ensures.frame) ∙ sym c.nodes-nodes.ensures.value in
    let given = c.in_ok-side.ensures.found side rest full line.behind in
    let same = c.get.ensures ∙ given.0 in
    let range_a = c.in_ok-a.ensures.range in
    let range_b = c.in_ok-b.ensures.range in
    not_told net c.get.result.now c.is_cut_of.result c.in_ok-a.a c.in_ok-b.b (rw same cut) (line.a ∙ ap (cut_a net) (sym same)) (line.b ∙ ap (cut_b net) (sym same))
    (record { low = omega (arith, ints, range_a.0); high = omega (arith, ints, range_a.1) }) (record { low = omega (arith, ints, range_b.0); high = omega (arith, ints, range_b.1) }) c.is_cut_of.ensures c.if-is_cut_of.false

pub returns-then-is_cut_of-clause-shape : goal.returns-then-is_cut_of-clause-shape
returns-then-is_cut_of-clause-shape c = rw c.get.ensures at (c.is_cut_of.ensures.0 c.if-is_cut_of.true).0

pub returns-then-is_cut_of-clause-taken : goal.returns-then-is_cut_of-clause-taken
returns-then-is_cut_of-clause-taken c =
    let net = c.args.net.now in
    let range_a = c.in_ok-a.ensures.range in
    let range_b = c.in_ok-b.ensures.range in
    let t = told net c.get.result.now c.is_cut_of.result c.in_ok-a.a c.in_ok-b.b (record { low = omega (arith, ints, range_a.0); high = omega (arith, ints, range_a.1) })
    (record { low = omega (arith, ints, range_b.0); high = omega (arith, ints, range_b.1) }) c.is_cut_of.ensures c.if-is_cut_of.true in
    cut_taken net c.in_ok-side.side c.in_ok-a.a c.in_ok-b.b c.args.text.now c.take_number.new.text c.take_number-2.new.text c.take_rest_side.new.text
    (t.1 ∙ ap (cut_a net) c.get.ensures) (t.2 ∙ ap (cut_b net) c.get.ensures) c.in_ok-a.ensures.taken c.in_ok-b.ensures.taken c.in_ok-side.ensures.taken
