-- The answer to `check`.
use Rattle.std.specs.Prelude.{◌≡◌, ◌↔◌, ℕ, Bool, true, if◌then◌else◌, List, [], ◌∷◌, ◌++◌, codes}
use Rattle.pf_text.specs.Spelling.{line}

-- the text of a verdict
unfoldable pub verdict_text : Bool → List ℕ
verdict_text holds = line (codes "o" ∷ codes "check" ∷ []) ++ line ((if holds then codes "yes" else codes "no") ∷ []) ++ line (codes "end" ∷ [])

-- a claim, and a text that says `yes` exactly where the claim holds and `no` otherwise
pub record IsRightVerdict (claim : Type 0) (text : List ℕ) : Type 0 where
  pub verdict : Bool
  pub exact : (verdict ≡ true) ↔ claim
  pub text_is : text ≡ verdict_text verdict
