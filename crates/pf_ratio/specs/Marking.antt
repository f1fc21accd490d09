-- Marks that spread along links.
use Rattle.std.specs.Prelude.{◌≡◌, ℕ, ◌+◌, ◌<◌, ◌≤◌, Bool, true, false, if◌then◌else◌, List, length}
use Rattle.pf_model.specs.Cut.{has, IsContained, size}
use Rattle.pf_ratio.specs.declared.link.Link.{Link}

-- the marks keep a link: an end is marked where the other one is and the link says so
pub record KeepsLink (link : Link) (marks : List Bool) : Type 0 where
  pub first_is : has marks link.second ≡ true → link.to_first ≡ true → has marks link.first ≡ true
  pub second_is : has marks link.first ≡ true → link.to_second ≡ true → has marks link.second ≡ true

-- they keep the first links
pub record KeepsLinks (links : ℕ → Link) (count : ℕ) (marks : List Bool) : Type 0 where
  pub each : (i : ℕ) → i < count → KeepsLink (links i) marks

-- the ends of the first links are such places
pub record HavePlaces (links : ℕ → Link) (count places : ℕ) : Type 0 where
  pub first : (i : ℕ) → i < count → (links i).first < places
  pub second : (i : ℕ) → i < count → (links i).second < places

-- an end of a link was marked where the link asks for it, and the result tells whether that was so
pub record IsEndMarked (link : Link) (old new : List Bool) (result : Bool) : Type 0 where
  pub full : length new ≡ length old
  pub more : IsContained old new
  pub grows : size old + (if result then 1 else 0) ≤ size new
  pub still : result ≡ false → new ≡ old
  pub least : (other : List Bool) → KeepsLink link other → IsContained old other → IsContained new other
  pub kept : result ≡ false → KeepsLink link new

-- the first links were looked at once, and the result tells whether one of them marked an end
pub record IsRound (links : ℕ → Link) (count : ℕ) (old new : List Bool) (result : Bool) : Type 0 where
  pub full : length new ≡ length old
  pub more : IsContained old new
  pub grows : size old + (if result then 1 else 0) ≤ size new
  pub still : result ≡ false → new ≡ old
  pub least : (other : List Bool) → KeepsLinks links count other → IsContained old other → IsContained new other
  pub kept : result ≡ false → KeepsLinks links count new

-- of the marks that contain the old ones and keep the first links, the least
pub record IsMarkedBy (links : ℕ → Link) (count : ℕ) (old new : List Bool) : Type 0 where
  pub full : length new ≡ length old
  pub more : IsContained old new
  pub kept : KeepsLinks links count new
  pub least : (other : List Bool) → KeepsLinks links count other → IsContained old other → IsContained new other
