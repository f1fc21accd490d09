use Rattle.std.proofs.Common.{refl, ◌∷◌, [], ◌<◌, length, arith}
use Rattle.std.proofs.lemmas.List.{take_more_set}
use Rattle.pf_io.proofs.PrintingLemmas.{Adds-kept}
use Rattle.pf_io.proofs.printer.Printer.byte.Goals as goal

pub returns-then-self-lt-ROOM : goal.returns-then-self-lt-ROOM
returns-then-self-lt-ROOM g c =
    let low : c.args.self.now.used < length c.args.self.now.buffer = omega arith in
    Adds-kept c.args.self.now _ (c.args.byte ∷ []) refl (take_more_set c.args.self.now.buffer c.args.self.now.used c.args.byte low) c.requires
