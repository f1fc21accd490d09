use Rattle.std.proofs.Common.{◌≡◌, sym, ap, ◌∙◌, to_z, of_z, arith}
use Rattle.std.specs.Int.{w128}
use Rattle.std.proofs.lemmas.Int.{ints}
use Rattle.pf_model.specs.Line.{AffineLine, value_at}
use Rattle.pf_model.proofs.Affine.{capacity_of_line}
use Rattle.pf_gen.proofs.summary.least_value.Goals as goal

pub returns : goal.returns
returns c =
    let back : to_z w128 (of_z w128 c.at.result) ≡ c.at.result = omega (arith, ints) in
    record {
      side = c.args.side.now;
      least = c.requires;
      value_is = back ∙ c.at.ensures ∙ ap (λ (l : AffineLine). value_at l c.args.at.now) c.cut_line.ensures ∙ sym (capacity_of_line c.args.net.now c.args.at.now c.args.side.now);
    }
