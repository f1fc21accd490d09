-- A certified answer has no more levels than the network has nodes, since each level has a source.
use Rattle.std.proofs.Common.{◌≡◌, ℕ, zero, suc, ◌+◌, ◌-◌, ◌<◌, ◌≤◌, ◌^◌, length, cond, ltb, ap, sym, ◌∙◌, arith, inl, inr}
use Rattle.std.proofs.lemmas.Bool.{cases_eq}
use Rattle.std.proofs.lemmas.Bool.Decides.{nat_tests}
use Rattle.pf_share.specs.Problem.{ShareProblem, IsBoundedSharing}
use Rattle.pf_share.specs.Certificate.{SharesAnswer, CertifiesShares, group_at}
use Rattle.pf_share.specs.Right.{IsSharesShape}
use Rattle.pf_share.specs.Laws.{FewLevels, CertifiedFromText}
use Rattle.pf_share.proofs.SameAnswers.{one_answer}

-- how many of the first places have a number below the bound
abbrev hits : (ℕ → ℕ) → ℕ → ℕ → ℕ
hits g zero c = 0
hits g (suc n) c = cond (ltb (g n) c) 1 0 + hits g n c

most_step : (a c k n : ℕ) → k ≤ n → cond (ltb a c) 1 0 + k ≤ suc n
most_step a c k n h = grind (arith, nat_tests)

hits_most : (g : ℕ → ℕ) (n c : ℕ) → hits g n c ≤ n
hits_most g zero c = omega arith
hits_most g (suc n) c = most_step (g n) c (hits g n c) n (hits_most g n c)

grow_step : (a c k k' : ℕ) → k ≤ k' → cond (ltb a c) 1 0 + k ≤ cond (ltb a (suc c)) 1 0 + k'
grow_step a c k k' h = grind (arith, nat_tests)

hits_grow : (g : ℕ → ℕ) (n c : ℕ) → hits g n c ≤ hits g n (suc c)
hits_grow g zero c = omega arith
hits_grow g (suc n) c = grow_step (g n) c (hits g n c) (hits g n (suc c)) (hits_grow g n c)

-- a place whose number is the bound counts once the bound is raised
here_step : (a c k k' : ℕ) → a ≡ c → k ≤ k' → (cond (ltb a c) 1 0 + k) + 1 ≤ cond (ltb a (suc c)) 1 0 + k'
here_step a c k k' e h = grind (arith, nat_tests)

later_step : (a c k k' : ℕ) → k + 1 ≤ k' → (cond (ltb a c) 1 0 + k) + 1 ≤ cond (ltb a (suc c)) 1 0 + k'
later_step a c k k' h = grind (arith, nat_tests)

hits_more : (g : ℕ → ℕ) (n c v : ℕ) → v < n → g v ≡ c → hits g n c + 1 ≤ hits g n (suc c)
hits_more g zero c v low e = absurd (omega arith)
hits_more g (suc n) c v low e = elim (cases_eq v n) [
  | inl same ↦ here_step (g n) c (hits g n c) (hits g n (suc c)) (ap g (sym same) ∙ e) (hits_grow g n c)
  | inr other ↦
      let less : v < n = omega arith in
      later_step (g n) c (hits g n c) (hits g n (suc c)) (hits_more g n c v less e)
]

-- a number that is that of a place
record HasPlace (g : ℕ → ℕ) (n j : ℕ) : Type 0 where
  place : ℕ
  there : place < n
  number_is : g place ≡ j

-- where all numbers below the bound are, it is at most the number of places
hits_all : (g : ℕ → ℕ) (n c : ℕ) → ((j : ℕ) → j < c → HasPlace g n j) → c ≤ hits g n c
hits_all g n zero h = omega arith
hits_all g n (suc c) h =
    let rest = hits_all g n c (λ j low. h j (omega arith)) in
    let last = h c (omega arith) in
    let more = hits_more g n c last.place last.there last.number_is in
    omega (arith, rest, more)

pub few_levels : FewLevels
few_levels p a c =
    let level : ℕ → ℕ = λ v. group_at a.groups v - 1 in
    let each : (j : ℕ) → j < length a.levels → HasPlace level p.nodes j = λ j low. (let s = c.groups.some j low in let same = s.group_is in record {
      place = s.node;
      there = s.there;
      number_is = omega (arith, same);
    }) in
    let all = hits_all level p.nodes (length a.levels) each in
    let most = hits_most level p.nodes (length a.levels) in
    omega (arith, all, most)

pub one_certified : CertifiedFromText
one_certified p a b bounded sa sb certificate e =
    let few = few_levels p a certificate in
    let nodes = bounded.few_nodes in
    one_answer p a b sa sb (omega (arith, few, nodes)) e
