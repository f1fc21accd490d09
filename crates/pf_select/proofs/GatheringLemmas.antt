-- Numbers gathered from the places of a text, one after the other.
use Rattle.std.proofs.Common.{◌≡◌, ℕ, zero, suc, ◌+◌, ◌<◌, ◌≤◌, List, [], ◌∷◌, ◌++◌, length, get_or, take, Option, Some, None, Result, Err, refl, sym, ap, ◌∙◌, arith}
use Rattle.std.specs.Option.{option_map}
use Rattle.std.proofs.lemmas.List.{take_more}
use Rattle.pf_text.specs.declared.RuleKind.{RuleKind}
use Rattle.pf_text.specs.declared.RuleKind.TheVariants.{Missing}
use Rattle.pf_lines.specs.declared.errors.LineBad.{LineBad}
use Rattle.pf_lines.specs.declared.errors.LineBad.TheVariants.{Broken, NoMemory}
use Rattle.pf_lines.specs.Gathering.{ObeysRules}
use Rattle.pf_select.specs.Problem.{SelectionProblem}
use Rattle.pf_select.specs.Refused.{IsMissingOf}
use Rattle.pf_select.specs.Text.{all_given, problem_by}
use Rattle.pf_model.proofs.Sums.{take_whole}

take_none : (slots : List (Option ℕ)) → all_given (take 0 slots) ≡ Some []
take_none [] = refl
take_none (slot ∷ slots) = refl

pub gathered_begin : (slots : List (Option ℕ)) (numbers : List ℕ) → numbers ≡ [] → all_given (take 0 slots) ≡ Some numbers
gathered_begin slots numbers e = take_none slots ∙ ap Some (sym e)

with_first : (y x : ℕ) (numbers : List ℕ) (o o' : Option (List ℕ)) → ((later : List ℕ) → o ≡ Some later → o' ≡ Some (later ++ x ∷ [])) →
    option_map (λ l. y ∷ l) o ≡ Some numbers → option_map (λ l. y ∷ l) o' ≡ Some (numbers ++ x ∷ [])
with_first y x numbers None o' h e = absurd cc
with_first y x numbers (Some later) o' h e =
    let s : y ∷ later ≡ numbers = cc in
    ap (option_map (λ l. y ∷ l)) (h later refl) ∙ ap (λ l. Some (l ++ x ∷ [])) s

all_given-more : (slots : List (Option ℕ)) (numbers : List ℕ) (x : ℕ) → all_given slots ≡ Some numbers → all_given (slots ++ Some x ∷ []) ≡ Some (numbers ++ x ∷ [])
all_given-more [] numbers x e = let s : [] ≡ numbers = cc in ap (λ (l : List ℕ). Some (l ++ x ∷ [])) s
all_given-more (None ∷ slots) numbers x e = absurd cc
all_given-more (Some y ∷ slots) numbers x e =
    with_first y x numbers (all_given slots) (all_given (slots ++ Some x ∷ [])) (λ later is. all_given-more slots later x is) e

pub gathered_more : (slots : List (Option ℕ)) (i : ℕ) (numbers numbers' : List ℕ) (x : ℕ) → all_given (take i slots) ≡ Some numbers → i < length slots →
    get_or slots i None ≡ Some x → numbers' ≡ numbers ++ x ∷ [] → all_given (take (i + 1) slots) ≡ Some numbers'
gathered_more slots i numbers numbers' x g low here e =
    ap all_given (take_more slots i None low ∙ ap (λ o. take i slots ++ o ∷ []) here) ∙ all_given-more (take i slots) numbers x g ∙ ap Some (sym e)

pub gathered_end : (slots : List (Option ℕ)) (i : ℕ) (numbers : List ℕ) → all_given (take i slots) ≡ Some numbers → length slots ≤ i → all_given slots ≡ Some numbers
gathered_end slots i numbers g done = sym (ap all_given (take_whole slots i done)) ∙ g

pub one_missing : (slots : List (Option ℕ)) (i : ℕ) → i < length slots → get_or slots i None ≡ None → all_given slots ≡ None
one_missing [] i low e = absurd (omega (arith, low))
one_missing (None ∷ slots) i low e = refl
one_missing (Some x ∷ slots) zero low e = absurd cc
one_missing (Some x ∷ slots) (suc i) low e = ap (option_map (λ l. x ∷ l)) (one_missing slots i (omega (arith, low)) e)

-- a refusal of the costs, or of the gains, is one of the problem
no_gains : (costs : Option (List ℕ)) (needs : List (ℕ × ℕ)) → problem_by costs None needs ≡ Err Missing
no_gains None needs = refl
no_gains (Some costs) needs = refl

err_missing : (rule : RuleKind) (decided : Result SelectionProblem RuleKind) → decided ≡ Err Missing → rule ≡ Missing → decided ≡ Err rule
err_missing rule decided e same = cc

pub costs_missing : (costs gains : Option (List ℕ)) (needs : List (ℕ × ℕ)) (bad : LineBad) → IsMissingOf costs bad →
    ObeysRules {X = SelectionProblem} (problem_by costs gains needs) (λ p. p) (Err bad)
costs_missing costs gains needs (Broken rule) h =
    err_missing rule (problem_by costs gains needs) (ap (λ (o : Option (List ℕ)). problem_by o gains needs) h.0) h.1
costs_missing costs gains needs NoMemory h = tt

pub gains_missing : (costs gains : Option (List ℕ)) (needs : List (ℕ × ℕ)) (bad : LineBad) → IsMissingOf gains bad →
    ObeysRules {X = SelectionProblem} (problem_by costs gains needs) (λ p. p) (Err bad)
gains_missing costs gains needs (Broken rule) h =
    err_missing rule (problem_by costs gains needs) (ap (λ (o : Option (List ℕ)). problem_by costs o needs) h.0 ∙ no_gains costs needs) h.1
gains_missing costs gains needs NoMemory h = tt

-- all were given
pub decided : (costs gains : Option (List ℕ)) (needs : List (ℕ × ℕ)) (xs ys : List ℕ) → costs ≡ Some xs → gains ≡ Some ys →
    problem_by costs gains needs ≡ problem_by (Some xs) (Some ys) needs
decided costs gains needs xs ys e f = ap (λ (o : Option (List ℕ)). problem_by o gains needs) e ∙ ap (λ (o : Option (List ℕ)). problem_by (Some xs) o needs) f

pub same_given : (slots slots' : List (Option ℕ)) → slots ≡ slots' → all_given slots ≡ all_given slots'
same_given slots slots' e = ap all_given e
