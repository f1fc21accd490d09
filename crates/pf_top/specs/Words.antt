-- The bytes of words, and the command of a request.
use Rattle.std.specs.Prelude.{ℕ, List, map}
use Rattle.std.specs.String.{string_bytes}
use Rattle.std.specs.declared.string.String.{String}
use Rattle.std.specs.declared.alloc.Global.{Global}
use Rattle.pf_top.specs.Job.{at, sweep, trees, reinforce, layers, named, Row, TextCommand, answer, check, Command, reads, draws}
use Rattle.pf_top.specs.declared.words.TextRequest.{TextRequest}
use Rattle.pf_top.specs.declared.words.TextRequest.TheVariants.{At, Sweep, Trees, Reinforce, Layers, Named}
use Rattle.pf_top.specs.declared.words.Wanted.{Wanted}
use Rattle.pf_top.specs.declared.words.Wanted.TheVariants.{Answer, Check}
use Rattle.pf_top.specs.declared.words.Request.{Request}
use Rattle.pf_top.specs.declared.words.Request.TheVariants.{Text, Generate}

-- the bytes of each word
abbrev pub word_bytes : List (String Global) → List (List ℕ)
word_bytes words = map string_bytes words

-- what is wanted of the job in a row
abbrev pub wanting : Wanted → Row → TextCommand
wanting Answer row = answer row
wanting Check row = check row

-- the command that a request stands for
abbrev pub text_command_of : TextRequest → TextCommand
text_command_of (At job) = answer (at job.parameter)
text_command_of (Sweep k) = answer (sweep k)
text_command_of (Trees k) = answer (trees k)
text_command_of (Reinforce x) = answer (reinforce x)
text_command_of Layers = answer layers
text_command_of (Named wanted name) = wanting wanted (named name)

abbrev pub command_of_request : Request → Command
command_of_request (Text request) = reads (text_command_of request)
command_of_request (Generate seed) = draws seed
