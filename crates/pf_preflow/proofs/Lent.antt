-- A list that was lent and has its length.
use Rattle.std.proofs.Common.{length}
