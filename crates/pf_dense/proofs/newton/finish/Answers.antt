use Rattle.std.proofs.Common.{◌≡◌, length, ap, sym, ◌∙◌}
use Rattle.pf_dense.proofs.DensityLemmas.{made_certificate, made_shape, written_whole}
use Rattle.pf_dense.proofs.newton.finish.Goals as goal

pub returns-clause-shape : goal.returns-clause-shape
returns-clause-shape c =
    let a : c.from_vec.result ≡ c.solve-density.new.set =
    c.from_vec.ensures
    ∙ written_whole _ _ c.args.set.len (c.solve-density.auto.set ∙ c.deref_mut.ensures.len) (sym c.deref_mut.ensures.len ∙ ap length c.deref_mut.ensures.value) in
    let b : c.from_vec-2.result ≡ c.solve-density.new.charges =
    c.from_vec-2.ensures
    ∙ written_whole _ _ c.args.charges.len (c.solve-density.auto.charges ∙ c.deref_mut-2.ensures.len) (sym c.deref_mut-2.ensures.len ∙ ap length c.deref_mut-2.ensures.value) in
    rw c.new.ensures (made_shape c.args.graph.now c.solve-density.result _ _ _ _ a b c.q.ensures.bounds c.q.ensures.lowest
    c.solve-density.ensures.certificate c.solve-density.ensures.each)

pub returns-clause-certificate : goal.returns-clause-certificate
returns-clause-certificate c =
    let a : c.from_vec.result ≡ c.solve-density.new.set =
    c.from_vec.ensures
    ∙ written_whole _ _ c.args.set.len (c.solve-density.auto.set ∙ c.deref_mut.ensures.len) (sym c.deref_mut.ensures.len ∙ ap length c.deref_mut.ensures.value) in
    let b : c.from_vec-2.result ≡ c.solve-density.new.charges =
    c.from_vec-2.ensures
    ∙ written_whole _ _ c.args.charges.len (c.solve-density.auto.charges ∙ c.deref_mut-2.ensures.len) (sym c.deref_mut-2.ensures.len ∙ ap length c.deref_mut-2.ensures.value) in
    rw c.new.ensures (made_certificate c.args.graph.now c.solve-density.result _ _ _ _ a b c.solve-density.ensures.certificate)
