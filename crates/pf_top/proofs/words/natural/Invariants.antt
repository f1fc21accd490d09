use Rattle.pf_top.proofs.NaturalLemmas.{IsRead}
use Rattle.pf_top.proofs.words.natural.Given as goal

abbrev pub invariant-digits : goal.invariant-digits
invariant-digits l = IsRead l.bytes l.most l.byte-index l.number
