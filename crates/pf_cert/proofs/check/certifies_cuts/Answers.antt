use Rattle.std.proofs.Common.{refl, below_more}
use Rattle.pf_cert.specs.Parts.{CertifiesCut}
use Rattle.pf_cert.proofs.Places.{keeps_again, serves_on}
use Rattle.pf_cert.proofs.check.certifies_cuts.Goals as goal

pub certifies_cut-requires-clause-room : goal.certifies_cut-requires-clause-room
certifies_cut-requires-clause-room c = serves_on _ _ _ _ c.requires.room c.cuts.invariant.places

pub cuts-preserved : goal.cuts-preserved
cuts-preserved c = record {
  each = below_more (CertifiesCut c.args.net.now c.args.curve.now.points c.args.curve.now.cuts c.args.curve.now.flows) c.cuts.i c.cuts.invariant.each
      (c.if-not-certifies_cut.ensures.exact.0 refl);
  places = keeps_again _ _ _ c.cuts.invariant.places c.certifies_cut.ensures.places;
}
