-- Items, taken from the front of a text one after another: one argument for every loop that does so.
use Rattle.std.proofs.Common.{◌≡◌, ℕ, ◌+◌, ◌<◌, ◌≤◌, List, [], ◌∷◌, ◌++◌, length, refl, sym, ap, subst, ◌∙◌, append_assoc, arith}
use Rattle.std.specs.Prelude.{All}
use Rattle.std.proofs.lemmas.List.{append-nil, length-append}
use Rattle.std.proofs.lemmas.List.Elements.{All-nil, All-head, All-tail, All-push, All-same}

-- A kind of items: the text of some from a place on, that of the item at a place, which values are items, and what may
-- stand after one, as another item may.
pub record Items (X : Type 0) : Type 1 where
  pub text : ℕ → List X → List ℕ
  pub item : ℕ → X → List ℕ
  pub none : (j : ℕ) → text j [] ≡ []
  pub more : (j : ℕ) (x : X) (xs : List X) → text j (x ∷ xs) ≡ item j x ++ text (j + 1) xs
  pub Is : X → Type 0
  pub MayFollow : List ℕ → Type 0
  pub follows : (j : ℕ) (x : X) (rest : List ℕ) → MayFollow (item j x ++ rest)

-- ---- lists

of_all : {X : Type 0} (P : X → Type 0) (front : List X) (x : X) (later : List X) → All P (front ++ x ∷ later) → P x
of_all P [] x later h = All-head P x later h
of_all P (y ∷ front) x later h = of_all P front x later (All-tail P y (front ++ x ∷ later) h)

none_later : {X : Type 0} (got whole others : List X) → whole ≡ got ++ others → length whole ≤ length got → others ≡ []
none_later got whole [] split long = refl
none_later got whole (x ∷ others) split long = absurd (let n = ap length split in omega (arith, n, long, length-append got (x ∷ others)))

-- ---- texts of items

-- the text of some, and of others after them
text-append : {X : Type 0} (K : Items X) (j : ℕ) (a b : List X) → K.text j (a ++ b) ≡ K.text j a ++ K.text (j + length a) b
text-append K j [] b = ap (λ (n : ℕ). K.text n b) (omega arith) ∙ ap (λ (t : List ℕ). t ++ K.text (j + 0) b) (sym (K.none j))
text-append K j (x ∷ a) b =
    let place : j + 1 + length a ≡ j + length (x ∷ a) = omega arith in
    K.more j x (a ++ b)
    ∙ ap (λ (t : List ℕ). K.item j x ++ t) (text-append K (j + 1) a b ∙ ap (λ (n : ℕ). K.text (j + 1) a ++ K.text n b) place)
    ∙ sym (append_assoc (K.item j x) (K.text (j + 1) a) (K.text (j + length (x ∷ a)) b))
    ∙ ap (λ (t : List ℕ). t ++ K.text (j + length (x ∷ a)) b) (sym (K.more j x a))

-- one more
text_more : {X : Type 0} (K : Items X) (j : ℕ) (got : List X) (x : X) → length got ≡ j → K.text 0 (got ++ x ∷ []) ≡ K.text 0 got ++ K.item j x
text_more K j got x count =
    let place : 0 + length got ≡ j = omega (arith, count) in
    text-append K 0 got (x ∷ [])
    ∙ ap (λ (n : ℕ). K.text 0 got ++ K.text n (x ∷ [])) place
    ∙ ap (λ (t : List ℕ). K.text 0 got ++ t) (K.more j x [] ∙ ap (λ (t : List ℕ). K.item j x ++ t) (K.none (j + 1)) ∙ append-nil (K.item j x))

-- what stands after an item, where others follow
behind_item : {X : Type 0} (K : Items X) (j : ℕ) (later : List X) (rest : List ℕ) → K.MayFollow rest → K.MayFollow (K.text j later ++ rest)
behind_item K j [] rest ok = subst K.MayFollow (ap (λ (t : List ℕ). t ++ rest) (sym (K.none j))) ok
behind_item K j (x ∷ later) rest ok =
    subst K.MayFollow (sym (append_assoc (K.item j x) (K.text (j + 1) later) rest) ∙ ap (λ (t : List ℕ). t ++ rest) (sym (K.more j x later))) (K.follows j x (K.text (j + 1) later ++ rest))

-- ---- what was taken, and what is left

-- what was taken stands in front of a list, and the text of its others in front of what is left
pub record IsFront {X : Type 0} (K : Items X) (j : ℕ) (got whole : List X) (now rest : List ℕ) : Type 0 where
  pub others : List X
  pub split : whole ≡ got ++ others
  pub left : now ≡ K.text j others ++ rest

-- the text is that of so many items, and these bytes stand after it
pub record Stand {X : Type 0} (K : Items X) (count : ℕ) (old : List ℕ) (whole : List X) (rest : List ℕ) : Type 0 where
  pub full : length whole ≡ count
  pub each : All K.Is whole
  pub behind : K.MayFollow rest
  pub text : old ≡ K.text 0 whole ++ rest

-- so many items were taken, and the text of any list that stood there begins with them
pub record HasTaken {X : Type 0} (K : Items X) (count : ℕ) (old now : List ℕ) (j : ℕ) (got : List X) : Type 0 where
  pub number : length got ≡ j
  pub taken : old ≡ K.text 0 got ++ now
  pub each : All K.Is got
  pub front : (whole : List X) (rest : List ℕ) → Stand K count old whole rest → IsFront K j got whole now rest

pub items_begin : {X : Type 0} (K : Items X) (count : ℕ) (old : List ℕ) → HasTaken K count old old 0 []
items_begin K count old = record {
  number = refl;
  taken = ap (λ (t : List ℕ). t ++ old) (sym (K.none 0));
  each = All-nil K.Is;
  front = λ whole rest s. record { others = whole; split = refl; left = s.text };
}

-- the item that comes next, and what is left after it
pub record IsNext {X : Type 0} (K : Items X) (j : ℕ) (now rest : List ℕ) (got whole : List X) : Type 0 where
  pub item : X
  pub later : List X
  pub split : whole ≡ (got ++ item ∷ []) ++ later
  pub is : K.Is item
  pub behind : K.MayFollow (K.text (j + 1) later ++ rest)
  pub left : now ≡ K.item j item ++ (K.text (j + 1) later ++ rest)

next_of : {X : Type 0} (K : Items X) (j : ℕ) (now rest : List ℕ) (got whole others : List X) → length got < length whole → All K.Is whole → K.MayFollow rest → whole ≡ got ++ others → now ≡ K.text j others ++ rest
    → IsNext K j now rest got whole
next_of K j now rest got whole [] low each ok split left = absurd (let n = ap length split in omega (arith, n, low, length-append got []))
next_of K j now rest got whole (x ∷ later) low each ok split left = record {
  item = x;
  later = later;
  split = split ∙ sym (append_assoc got (x ∷ []) later);
  is = of_all K.Is got x later (All-same K.Is (got ++ x ∷ later) whole (sym split) each);
  behind = behind_item K (j + 1) later rest ok;
  left = left ∙ ap (λ (t : List ℕ). t ++ rest) (K.more j x later) ∙ append_assoc (K.item j x) (K.text (j + 1) later) rest;
}

-- an item is still to come
pub comes : {X : Type 0} (K : Items X) (count : ℕ) (old now : List ℕ) (j : ℕ) (got : List X) → HasTaken K count old now j got → j < count
    → (whole : List X) (rest : List ℕ) → Stand K count old whole rest → IsNext K j now rest got whole
comes K count old now j got p low whole rest s =
    let f = p.front whole rest s in
    next_of K j now rest got whole f.others (let n = p.number in let m = s.full in omega (arith, n, m, low)) s.each s.behind f.split f.left

-- an item was taken
pub item_taken : {X : Type 0} (K : Items X) (count : ℕ) (old now new : List ℕ) (j : ℕ) (got : List X) (x : X) → HasTaken K count old now j got → j < count
    → now ≡ K.item j x ++ new → K.Is x → ((y : X) (rest : List ℕ) → K.Is y → K.MayFollow rest → now ≡ K.item j y ++ rest → (x ≡ y) × (new ≡ rest))
    → HasTaken K count old new (j + 1) (got ++ x ∷ [])
item_taken K count old now new j got x p low e is found = record {
  number = let n = p.number in omega (arith, n, length-append got (x ∷ []));
  taken =
      p.taken ∙ ap (λ (t : List ℕ). K.text 0 got ++ t) e ∙ sym (append_assoc (K.text 0 got) (K.item j x) new)
      ∙ ap (λ (t : List ℕ). t ++ new) (sym (text_more K j got x p.number));
  each = All-push K.Is got x p.each is;
  front = λ whole rest s.
      let t = comes K count old now j got p low whole rest s in
      let f = found t.item (K.text (j + 1) t.later ++ rest) t.is t.behind t.left in
      record { others = t.later; split = t.split ∙ ap (λ y. (got ++ y ∷ []) ++ t.later) (sym f.0); left = f.1 };
}

-- an item was refused: what follows where the text of an item stands there, follows where the whole does
pub item_refused : {X : Type 0} (K : Items X) (count : ℕ) (old now : List ℕ) (j : ℕ) (got : List X) (P : Type 0) → HasTaken K count old now j got → j < count
    → ((y : X) (rest : List ℕ) → K.Is y → K.MayFollow rest → now ≡ K.item j y ++ rest → P)
    → (whole : List X) (rest : List ℕ) → Stand K count old whole rest → P
item_refused K count old now j got P p low found whole rest s =
    let t = comes K count old now j got p low whole rest s in
    found t.item (K.text (j + 1) t.later ++ rest) t.is t.behind t.left

-- all were taken
pub items_end : {X : Type 0} (K : Items X) (count : ℕ) (old now : List ℕ) (j : ℕ) (got : List X) → HasTaken K count old now j got → j ≡ count
    → (whole : List X) (rest : List ℕ) → Stand K count old whole rest → (got ≡ whole) × (now ≡ rest)
items_end K count old now j got p all whole rest s =
    let f = p.front whole rest s in
    let none = none_later got whole f.others f.split (let n = p.number in let m = s.full in omega (arith, n, m, all)) in
    (sym (append-nil got) ∙ ap (λ xs. got ++ xs) (sym none) ∙ sym f.split, f.left ∙ ap (λ xs. K.text j xs ++ rest) none ∙ ap (λ (t : List ℕ). t ++ rest) (K.none j))
