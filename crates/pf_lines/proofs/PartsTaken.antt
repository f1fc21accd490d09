-- A first piece, and items after it, taken from the front of a text and put into lists: one argument for every loop that does so.
use Rattle.std.proofs.Common.{◌≡◌, ℕ, ◌+◌, ◌<◌, List, [], ◌∷◌, ◌++◌, length, ap, ◌∙◌}
use Rattle.std.specs.Prelude.{All}
use Rattle.pf_lines.proofs.ItemsTaken.{Items, Stand, HasTaken, items_begin, item_taken, item_refused, items_end}

-- The text of a first piece, and which values are first pieces; the items; the lists that a first piece and items make up, and
-- these lists with one item more.
pub record Parts (F X O : Type 0) : Type 1 where
  pub line : F → List ℕ
  pub IsFirst : F → Type 0
  pub items : Items X
  pub lists : F → List X → O
  pub add : X → O → O
  pub more : (first : F) (xs : List X) (x : X) → add x (lists first xs) ≡ lists first (xs ++ x ∷ [])

-- the text is that of a first piece and so many items, and these bytes stand after it
pub record PartsStand {F X O : Type 0} (K : Parts F X O) (count : ℕ) (old : List ℕ) (first : F) (whole : List X) (rest : List ℕ) : Type 0 where
  pub shape : K.IsFirst first
  pub full : length whole ≡ count
  pub each : All K.items.Is whole
  pub behind : K.items.MayFollow rest
  pub text : old ≡ K.line first ++ (K.items.text 0 whole ++ rest)

-- the first piece and so many items were taken, and the text of any others that stood there begins with them
pub record HasParts {F X O : Type 0} (K : Parts F X O) (count : ℕ) (old now : List ℕ) (j : ℕ) (o : O) : Type 0 where
  pub first : F
  pub behind : List ℕ
  pub got : List X
  pub is : o ≡ K.lists first got
  pub shape : K.IsFirst first
  pub front : old ≡ K.line first ++ behind
  pub only : (other : F) (rest : List ℕ) → K.IsFirst other → old ≡ K.line other ++ rest → (first ≡ other) × (behind ≡ rest)
  pub taken : HasTaken K.items count behind now j got

pub parts_begin : {F X O : Type 0} (K : Parts F X O) (count : ℕ) (old now : List ℕ) (o : O) (first : F) → o ≡ K.lists first [] → K.IsFirst first → old ≡ K.line first ++ now
    → ((other : F) (rest : List ℕ) → K.IsFirst other → old ≡ K.line other ++ rest → (first ≡ other) × (now ≡ rest)) → HasParts K count old now 0 o
parts_begin K count old now o first is shape front only = record {
  first = first;
  behind = now;
  got = [];
  is = is;
  shape = shape;
  front = front;
  only = only;
  taken = items_begin K.items count now;
}

module _ {F X O : Type 0} (K : Parts F X O) (count : ℕ) (old now : List ℕ) (j : ℕ) (o : O) (p : HasParts K count old now j o) where
  -- the items of a text that stands there stand after the first piece
  stands : (first : F) (whole : List X) (rest : List ℕ) (s : PartsStand K count old first whole rest) → Stand K.items count p.behind whole rest
  stands first whole rest s = record { full = s.full; each = s.each; behind = s.behind; text = (p.only first (K.items.text 0 whole ++ rest) s.shape s.text).1 }

  -- an item was taken
  pub part_taken : (new : List ℕ) (o' : O) (x : X) → j < count → o' ≡ K.add x o → now ≡ K.items.item j x ++ new → K.items.Is x
      → ((y : X) (rest : List ℕ) → K.items.Is y → K.items.MayFollow rest → now ≡ K.items.item j y ++ rest → (x ≡ y) × (new ≡ rest)) → HasParts K count old new (j + 1) o'
  part_taken new o' x low added e is found = record {
    first = p.first;
    behind = p.behind;
    got = p.got ++ x ∷ [];
    is = added ∙ ap (K.add x) p.is ∙ K.more p.first p.got x;
    shape = p.shape;
    front = p.front;
    only = p.only;
    taken = item_taken K.items count p.behind now new j p.got x p.taken low e is found;
  }

  -- an item was refused: what follows where the text of an item stands there, follows where the whole does
  pub part_refused : (P : Type 0) → j < count → ((y : X) (rest : List ℕ) → K.items.Is y → K.items.MayFollow rest → now ≡ K.items.item j y ++ rest → P)
      → (first : F) (whole : List X) (rest : List ℕ) → PartsStand K count old first whole rest → P
  part_refused P low found first whole rest s = item_refused K.items count p.behind now j p.got P p.taken low found whole rest (stands first whole rest s)

  -- all were taken
  pub parts_end : j ≡ count → (first : F) (whole : List X) (rest : List ℕ) → PartsStand K count old first whole rest → (o ≡ K.lists first whole) × (now ≡ rest)
  parts_end all first whole rest s =
      let same = (p.only first (K.items.text 0 whole ++ rest) s.shape s.text).0 in
      let end = items_end K.items count p.behind now j p.got p.taken all whole rest (stands first whole rest s) in
      (p.is ∙ ap (λ (f : F). K.lists f p.got) same ∙ ap (K.lists first) end.0, end.1)

  -- the text of what was taken
  pub parts_text : old ≡ K.line p.first ++ (K.items.text 0 p.got ++ now)
  parts_text = p.front ∙ ap (λ (t : List ℕ). K.line p.first ++ t) p.taken.taken
