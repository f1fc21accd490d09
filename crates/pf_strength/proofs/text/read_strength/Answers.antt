use Rattle.std.proofs.Common.{refl}
use Rattle.pf_format.proofs.Formats.{made_whole, made_refused}
use Rattle.pf_strength.proofs.TextLemmas.{fields_of}
use Rattle.pf_strength.proofs.text.read_strength.Goals as goal

pub returns-in_err-fields : goal.returns-in_err-fields
returns-in_err-fields c =
    let f = c.strength_format-format.ensures in
    let g = c.args.graph.now in
    made_refused {parts = fields_of} c.from_residual.result c.in_err-fields.ensures c.from_residual.ensures.1
    (record { same = f.text; shape = λ y. (f.shape g y c.vertices.ensures.value c.edges.ensures).0; back = λ y. (f.shape g y c.vertices.ensures.value c.edges.ensures).1; there = λ a. refl })

pub returns : goal.returns
returns c =
    let f = c.strength_format-format.ensures in
    let g = c.args.graph.now in
    made_whole {parts = fields_of} c.in_ok-fields.ensures c.of_fields.ensures
    (record { same = f.text; shape = λ y. (f.shape g y c.vertices.ensures.value c.edges.ensures).0; back = λ y. (f.shape g y c.vertices.ensures.value c.edges.ensures).1; there = λ a. refl })
