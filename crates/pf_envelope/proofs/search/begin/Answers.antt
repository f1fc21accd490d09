use Rattle.std.proofs.Common.{ℕ, List, [], ◌∷◌, ◌++◌, ap, ◌∙◌}
use Rattle.std.proofs.lemmas.List.Elements.{All-nil, All-cons}
use Rattle.pf_envelope.specs.Envelope.{Segment}
use Rattle.pf_envelope.specs.Search.{Spot}
use Rattle.pf_envelope.specs.declared.search.Found.{Found}
use Rattle.pf_envelope.specs.declared.search.Part.{Part}
use Rattle.pf_envelope.proofs.Ends.{started}
use Rattle.pf_envelope.proofs.search.begin.Given.{Over}
use Rattle.pf_envelope.proofs.search.begin.Goals as goal

-- the spot of a member that was found, and the segment of a part
abbrev spot_of : (g : Over) → g.F.Family.Subject → Found g.row.F-Member.Denot → Spot
spot_of g s e = record { at = e.at; line = g.F.Family.line_of s e.member }

abbrev segment_of : (g : Over) → g.F.Family.Subject → Part g.row.F-Member.Denot → Segment
segment_of g s p = record { right = p.right; line = g.F.Family.line_of s p.member }

abbrev IsKnown : (g : Over) → g.F.Family.Subject → Found g.row.F-Member.Denot → Type 0
IsKnown g s e = g.F.Family.member s e.member × g.F.Family.found s e.member e.at × g.F.Family.serves s e.at

abbrev IsOwn : (g : Over) → g.F.Family.Subject → Part g.row.F-Member.Denot → Type 0
IsOwn g s p = g.F.Family.member s p.member

pub returns-clause-same : goal.returns-clause-same
returns-clause-same g c = c.end-2.ensures.same ∙ c.end.ensures.same

pub returns-clause-known : goal.returns-clause-known
returns-clause-known g c =
    let s = g.F.Family.subject c.args.family.now in
    let first : Found g.row.F-Member.Denot = record { at = c.args.lo.now; member = c.in_ok-low_end.low_end } in
    let second : Found g.row.F-Member.Denot = record { at = c.args.hi.now; member = c.in_ok-high_end.high_end } in
    let before_first : List (Found g.row.F-Member.Denot) → List (Found g.row.F-Member.Denot) = λ xs. xs ++ first ∷ [] in
    let before_second : List (Found g.row.F-Member.Denot) → List (Found g.row.F-Member.Denot) = λ xs. xs ++ second ∷ [] in
    let before_place : List ℕ → List ℕ = λ xs. xs ++ 1 ∷ [] in
    let found = c.in_ok-push-2.ensures.items ∙ ap before_second (c.in_ok-push.ensures.items ∙ ap before_first c.new.ensures.items) in
    let waiting = c.in_ok-push-3.ensures.ok ∙ ap before_place c.new-2.ensures.items in
    let second_member = rw c.end.ensures.same at c.in_ok-high_end.ensures.member in
    let second_lowest = rw c.end.ensures.same at c.in_ok-high_end.ensures.least in
    let second_found = rw c.end.ensures.same at c.in_ok-high_end.ensures.found in
    rw (found, waiting, c.new-3.ensures.items) (started (g.F.Family.has s) c.args.lo.now c.args.hi.now (g.F.Family.line_of s first.member) (g.F.Family.line_of s second.member)
    (record {
      parameter = g.met.F.Family.serves_parameters s c.args.lo.now c.requires.low_served;
      of_family = g.met.F.Family.lines_of_members s first.member c.in_ok-low_end.ensures.member;
      least = c.in_ok-low_end.ensures.least;
    })
    (record {
      parameter = g.met.F.Family.serves_parameters s c.args.hi.now c.requires.high_served;
      of_family = g.met.F.Family.lines_of_members s second.member second_member;
      least = second_lowest;
    })
    c.requires.interval)

pub returns-clause-members : goal.returns-clause-members
returns-clause-members g c =
    let s = g.F.Family.subject c.args.family.now in
    let first : Found g.row.F-Member.Denot = record { at = c.args.lo.now; member = c.in_ok-low_end.low_end } in
    let second : Found g.row.F-Member.Denot = record { at = c.args.hi.now; member = c.in_ok-high_end.high_end } in
    let before_first : List (Found g.row.F-Member.Denot) → List (Found g.row.F-Member.Denot) = λ xs. xs ++ first ∷ [] in
    let before_second : List (Found g.row.F-Member.Denot) → List (Found g.row.F-Member.Denot) = λ xs. xs ++ second ∷ [] in
    let before_place : List ℕ → List ℕ = λ xs. xs ++ 1 ∷ [] in
    let found = c.in_ok-push-2.ensures.items ∙ ap before_second (c.in_ok-push.ensures.items ∙ ap before_first c.new.ensures.items) in
    let waiting = c.in_ok-push-3.ensures.ok ∙ ap before_place c.new-2.ensures.items in
    let second_member = rw c.end.ensures.same at c.in_ok-high_end.ensures.member in
    let second_lowest = rw c.end.ensures.same at c.in_ok-high_end.ensures.least in
    let second_found = rw c.end.ensures.same at c.in_ok-high_end.ensures.found in
    rw found (All-cons (IsKnown g s) first (second ∷ []) (c.in_ok-low_end.ensures.member, c.in_ok-low_end.ensures.found, c.requires.low_served)
    (All-cons (IsKnown g s) second [] (second_member, second_found, c.requires.high_served) (All-nil (IsKnown g s))))

pub returns-clause-parts : goal.returns-clause-parts
returns-clause-parts g c = rw c.new-3.ensures.items (All-nil (IsOwn g (g.F.Family.subject c.args.family.now)))
