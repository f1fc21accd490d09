-- Items gathered from the places of a text, one after the other.
use Rattle.std.proofs.Common.{◌≡◌, ℕ, zero, suc, ◌+◌, ◌<◌, List, [], ◌∷◌, ◌++◌, length, get_or, take, map, Option, Some, None, Result, Err, refl, sym, ap, ◌∙◌, arith}
use Rattle.std.specs.Prelude.{ℤ}
use Rattle.std.specs.Option.{option_map}
use Rattle.std.proofs.lemmas.List.{take_more}
use Rattle.pf_text.specs.declared.RuleKind.{RuleKind}
use Rattle.pf_lines.specs.declared.errors.LineBad.{LineBad}
use Rattle.pf_lines.specs.declared.errors.LineBad.TheVariants.{Broken, NoMemory}
use Rattle.pf_lines.specs.Gathering.{ObeysRules}
use Rattle.pf_closure.specs.Problem.{ClosureProblem}
use Rattle.pf_closure.specs.Refused.{IsRefusedBy}
use Rattle.pf_closure.specs.Text.{all_given, problem_by}

-- the items of the first places
pub record AreGathered (slots : List (Option (ℤ × ℤ))) (i : ℕ) (costs weights : List ℤ) : Type 0 where
  pub items : List (ℤ × ℤ)
  pub all : all_given (take i slots) ≡ Some items
  pub costs_are : costs ≡ map (λ item. item.0) items
  pub weights_are : weights ≡ map (λ item. item.1) items

with_first : (y x : ℤ × ℤ) (items : List (ℤ × ℤ)) (o o' : Option (List (ℤ × ℤ))) → ((later : List (ℤ × ℤ)) → o ≡ Some later → o' ≡ Some (later ++ x ∷ [])) →
    option_map (λ l. y ∷ l) o ≡ Some items → option_map (λ l. y ∷ l) o' ≡ Some (items ++ x ∷ [])
with_first y x items None o' h e = absurd cc
with_first y x items (Some later) o' h e =
    let s : y ∷ later ≡ items = cc in
    ap (option_map (λ l. y ∷ l)) (h later refl) ∙ ap (λ l. Some (l ++ x ∷ [])) s

all_given-more : (slots : List (Option (ℤ × ℤ))) (items : List (ℤ × ℤ)) (x : ℤ × ℤ) → all_given slots ≡ Some items →
    all_given (slots ++ Some x ∷ []) ≡ Some (items ++ x ∷ [])
all_given-more [] items x e = let s : [] ≡ items = cc in ap (λ (l : List (ℤ × ℤ)). Some (l ++ x ∷ [])) s
all_given-more (None ∷ slots) items x e = absurd cc
all_given-more (Some y ∷ slots) items x e =
    with_first y x items (all_given slots) (all_given (slots ++ Some x ∷ [])) (λ later is. all_given-more slots later x is) e

map-more : (f : ℤ × ℤ → ℤ) (items : List (ℤ × ℤ)) (x : ℤ × ℤ) → map f (items ++ x ∷ []) ≡ map f items ++ f x ∷ []
map-more f [] x = refl
map-more f (y ∷ items) x = ap (λ l. f y ∷ l) (map-more f items x)

pub gathered_more : (slots : List (Option (ℤ × ℤ))) (i : ℕ) (costs weights costs' weights' : List ℤ) (cost weight : ℤ) → AreGathered slots i costs weights → i < length slots →
    get_or slots i None ≡ Some (cost, weight) → costs' ≡ costs ++ cost ∷ [] → weights' ≡ weights ++ weight ∷ [] → AreGathered slots (i + 1) costs' weights'
gathered_more slots i costs weights costs' weights' cost weight g low here e f = record {
  items = g.items ++ (cost, weight) ∷ [];
  all = ap all_given (take_more slots i None low ∙ ap (λ o. take i slots ++ o ∷ []) here) ∙ all_given-more (take i slots) g.items (cost, weight) g.all;
  costs_are = e ∙ ap (λ l. l ++ cost ∷ []) g.costs_are ∙ sym (map-more (λ item. item.0) g.items (cost, weight));
  weights_are = f ∙ ap (λ l. l ++ weight ∷ []) g.weights_are ∙ sym (map-more (λ item. item.1) g.items (cost, weight));
}

pub one_missing : (slots : List (Option (ℤ × ℤ))) (i : ℕ) → i < length slots → get_or slots i None ≡ None → all_given slots ≡ None
one_missing [] i low e = absurd (omega (arith, low))
one_missing (None ∷ slots) i low e = refl
one_missing (Some x ∷ slots) zero low e = absurd cc
one_missing (Some x ∷ slots) (suc i) low e = ap (option_map (λ l. x ∷ l)) (one_missing slots i (omega (arith, low)) e)

-- a refusal of the items is one of their problem
pub obeys_refused : (decided decided' : Result ClosureProblem RuleKind) (bad : LineBad) → decided ≡ decided' → IsRefusedBy decided bad →
    ObeysRules {X = ClosureProblem} decided' (λ p. p) (Err bad)
obeys_refused decided decided' (Broken rule) same h = sym same ∙ h
obeys_refused decided decided' NoMemory same h = tt

pub decided_same : (slots slots' : List (Option (ℤ × ℤ))) (needs : List (ℕ × ℕ)) → slots ≡ slots' → problem_by (all_given slots) needs ≡ problem_by (all_given slots') needs
decided_same slots slots' needs e = ap (λ (l : List (Option (ℤ × ℤ))). problem_by (all_given l) needs) e
