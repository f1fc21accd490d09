-- A share as the code keeps it.
use Rattle.pf_model.specs.Fraction.{Fraction}
use Rattle.pf_share.specs.declared.weighted.Share.{Share}

abbrev pub parts_of : Share → Fraction
parts_of share = record { p = share.p; q = share.q }
