-- Levels and partitions, taken from a text one after another, and their values.
use Rattle.std.proofs.Common.{◌≡◌, ℕ, zero, suc, ◌+◌, ◌<◌, ◌≤◌, List, [], ◌∷◌, ◌++◌, length, get_or, map, refl, arith, ap, sym, ◌∙◌, subst}
use Rattle.std.specs.Prelude.{ℤ, All}
use Rattle.std.proofs.lemmas.List.{length-map, get_or_default}
use Rattle.std.proofs.lemmas.List.Elements.{All-head, All-tail}
use Rattle.pf_model.specs.Fraction.{Fraction}
use Rattle.pf_lines.specs.declared.taking.Valued.{Valued}
use Rattle.pf_lines.proofs.ItemsTaken.{Items, Stand}
use Rattle.pf_graph.specs.WeightedGraph.{WeightedGraph}
use Rattle.pf_graph.specs.Best.{partition_value}
use Rattle.pf_principal.specs.Text.{step_text, steps_text, step_of, steps_of}
use Rattle.pf_principal.specs.Reading.{IsStepShape, HasValue, HaveValues, before_step}
use Rattle.pf_principal.specs.declared.steps.Step.{Step}

-- ---- one after another

abbrev pub step_items : ℕ → Items Step
step_items nodes = record {
  text = λ j steps. steps_text j steps;
  item = λ j step. step_text (j + 1) step;
  none = λ j. refl;
  more = λ j step steps. refl;
  Is = IsStepShape nodes;
  MayFollow = λ rest. Unit {0};
  follows = λ j step rest. tt;
}

pub steps_stand : (nodes count : ℕ) (old : List ℕ) (steps : List Step) (rest : List ℕ) → length steps ≡ count → All (IsStepShape nodes) steps → old ≡ steps_text 0 steps ++ rest →
    Stand (step_items nodes) count old steps rest
steps_stand nodes count old steps rest full each there = record { full = full; each = each; behind = tt; text = there }

abbrev step_with : Valued → List ℕ → Step
step_with level labels = record { level = level; partition = labels }

of_parts : (level level' : Valued) (labels labels' : List ℕ) → level ≡ level' → labels ≡ labels' → step_with level labels ≡ step_with level' labels'
of_parts level level' labels labels' e f = cc

pub same_step : (level : Valued) (labels : List ℕ) (step : Step) → level ≡ step.level → labels ≡ step.partition → ◌≡◌ {A = Step} (record { level = level; partition = labels }) step
same_step level labels step e f = of_parts level step.level labels step.partition e f

-- ---- values

abbrev pub ats_of : List Step → List Fraction
ats_of steps = map (λ (s : Step). s.level.at) steps

abbrev pub partitions_of : List Step → List (List ℕ)
partitions_of steps = map (λ (s : Step). s.partition) steps

value_shifts : (g : WeightedGraph) (first : List ℕ) (step : Step) (steps : List Step) → HaveValues g first (step ∷ steps) → HaveValues g step.partition steps
value_shifts g first step steps h = record { each = λ i d low. h.each (suc i) d (omega (arith, low)) }

same_head : (g : WeightedGraph) (first : List ℕ) (step : Step) → HasValue g first step → step_of g first step.level.at step.partition ≡ step
same_head g first step v = by step.level.at step.level.value step.partition (partition_value g first step.level.at) (sym v.value_is)
  where
    by : (at : Fraction) (value : ℤ) (labels : List ℕ) (z : ℤ) → z ≡ value → step_with (record { at = at; value = z }) labels ≡ step_with (record { at = at; value = value }) labels
    by at value labels z e = cc

-- the steps are those of their levels and partitions, where the values are right
pub steps_from_values : (g : WeightedGraph) (first : List ℕ) (steps : List Step) → HaveValues g first steps → steps_of g first (ats_of steps) (partitions_of steps) ≡ steps
steps_from_values g first [] h = refl
steps_from_values g first (step ∷ steps) h =
    let here = same_head g first step (h.each 0 step (omega arith)) in
    let later = steps_from_values g step.partition steps (value_shifts g first step steps h) in
    cc

-- and of no others
value_at_head : (g : WeightedGraph) (first : List ℕ) (x : Fraction) (labels : List ℕ) (steps : List Step) → HaveValues g labels steps → (i : ℕ) (d : Step) →
    i < length (step_of g first x labels ∷ steps) → HasValue g (before_step first (step_of g first x labels ∷ steps) i) (get_or (step_of g first x labels ∷ steps) i d)
value_at_head g first x labels steps h zero d low = record { value_is = refl }
value_at_head g first x labels steps h (suc i) d low = h.each i d (omega (arith, low))

pub values_of_steps : (g : WeightedGraph) (first : List ℕ) (levels : List Fraction) (partitions : List (List ℕ)) → HaveValues g first (steps_of g first levels partitions)
values_of_steps g first [] partitions = record { each = λ i d low. absurd (omega (arith, low)) }
values_of_steps g first (x ∷ levels) [] = record { each = λ i d low. absurd (omega (arith, low)) }
values_of_steps g first (x ∷ levels) (labels ∷ partitions) =
    record { each = value_at_head g first x labels (steps_of g labels levels partitions) (values_of_steps g labels levels partitions) }

pub ats_of_steps : (g : WeightedGraph) (first : List ℕ) (levels : List Fraction) (partitions : List (List ℕ)) → length levels ≡ length partitions → ats_of (steps_of g first levels partitions) ≡ levels
ats_of_steps g first [] [] e = refl
ats_of_steps g first [] (labels ∷ partitions) e = refl
ats_of_steps g first (x ∷ levels) [] e = absurd (omega (arith, e))
ats_of_steps g first (x ∷ levels) (labels ∷ partitions) e = ap (λ (xs : List Fraction). x ∷ xs) (ats_of_steps g labels levels partitions (omega (arith, e)))

pub partitions_of_steps : (g : WeightedGraph) (first : List ℕ) (levels : List Fraction) (partitions : List (List ℕ)) → length levels ≡ length partitions →
    partitions_of (steps_of g first levels partitions) ≡ partitions
partitions_of_steps g first [] [] e = refl
partitions_of_steps g first [] (labels ∷ partitions) e = absurd (omega (arith, e))
partitions_of_steps g first (x ∷ levels) [] e = refl
partitions_of_steps g first (x ∷ levels) (labels ∷ partitions) e = ap (λ (xs : List (List ℕ)). labels ∷ xs) (partitions_of_steps g labels levels partitions (omega (arith, e)))

pub length_steps : (g : WeightedGraph) (first : List ℕ) (levels : List Fraction) (partitions : List (List ℕ)) → length levels ≡ length partitions → length (steps_of g first levels partitions) ≡ length levels
length_steps g first levels partitions e = sym (length-map (steps_of g first levels partitions) (λ (s : Step). s.level.at)) ∙ ap length (ats_of_steps g first levels partitions e)

-- the partition before a step
pub before_is : (first : List ℕ) (steps : List Step) (i : ℕ) (d : Step) → i < length steps → before_step first steps (suc i) ≡ (get_or steps i d).partition
before_is first [] i d low = absurd (omega (arith, low))
before_is first (step ∷ steps) zero d low = refl
before_is first (step ∷ steps) (suc i) d low = before_is step.partition steps i d (omega (arith, low))

-- the partition before each step has a label for each vertex
pub before_full : (n : ℕ) (first : List ℕ) (steps : List Step) (i : ℕ) → length first ≡ n → All (IsStepShape n) steps → i ≤ length steps → length (before_step first steps i) ≡ n
before_full n first steps zero full each low = full
before_full n first [] (suc i) full each low = absurd (omega (arith, low))
before_full n first (step ∷ steps) (suc i) full each low =
    before_full n step.partition steps i (All-head (IsStepShape n) step steps each).partition.full (All-tail (IsStepShape n) step steps each) (omega (arith, low))

-- the same value, of a step that is known by an equation
pub value_seen : (g : WeightedGraph) (before before' : List ℕ) (steps : List Step) (i : ℕ) (item d : Step) → before ≡ before' → item ≡ get_or steps i item → i < length steps →
    HasValue g before item → HasValue g before' (get_or steps i d)
value_seen g before before' steps i item d e is low v =
    let P : List ℕ → Type 0 = λ b. HasValue g b (get_or steps i d) in
    let Q : Step → Type 0 = λ s. HasValue g before s in
    subst P e (subst Q (is ∙ get_or_default steps i item d low) v)
