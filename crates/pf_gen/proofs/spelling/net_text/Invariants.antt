use Rattle.std.proofs.Common.{◌≡◌, ◌*◌, ◌++◌, map}
use Rattle.pf_gen.specs.Generator.{generator_behind, text_of_lines, front_lines, arc_fields, drawn_arcs}
use Rattle.pf_gen.proofs.spelling.net_text.Given as goal

abbrev pub invariant-arcs : goal.invariant-arcs
invariant-arcs l = record {
  drawn : l.generator ≡ generator_behind l.seed (3 * l.i);
  spelled : l.text.items ≡ text_of_lines (front_lines l.n l.m) ++ text_of_lines (map arc_fields (drawn_arcs l.seed l.n l.i));
}
