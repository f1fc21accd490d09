-- Lines and lists, spelled piece by piece.
use Rattle.std.proofs.Common.{◌≡◌, ℕ, ◌+◌, ◌<◌, List, [], ◌∷◌, ◌++◌, length, take, drop, get_or, map, refl, sym, ap, ◌∙◌, append_assoc}
use Rattle.std.proofs.lemmas.List.{append-nil, take_more, take-append-drop, map-append}
use Rattle.std.specs.Prelude.{Bool}
use Rattle.std.specs.Fmt.{decimal}
use Rattle.std.specs.List.{join_with_byte}
use Rattle.pf_text.specs.Spelling.{line, side_text, spaced, rest_of_line, head, head_text}

-- A text of a list that is the texts of its pieces: one item more, and the whole after what was printed.
pub text_more : {X : Type 0} (text : List X → List ℕ) → ((a b : List X) → text (a ++ b) ≡ text a ++ text b) → (xs : List X) (i : ℕ) (d : X) → i < length xs
    → text (take (i + 1) xs) ≡ text (take i xs) ++ text (get_or xs i d ∷ [])
text_more text law xs i d low = ap text (take_more xs i d low) ∙ law (take i xs) (get_or xs i d ∷ [])

pub text_all : {X : Type 0} (text : List X → List ℕ) → ((a b : List X) → text (a ++ b) ≡ text a ++ text b) → (xs : List X) (i : ℕ) (d : X) → i < length xs
    → text xs ≡ (text (take i xs) ++ text (get_or xs i d ∷ [])) ++ text (drop (i + 1) xs)
text_all text law xs i d low =
    ap text (sym (take-append-drop (i + 1) xs)) ∙ law (take (i + 1) xs) (drop (i + 1) xs)
    ∙ ap (λ (front : List ℕ). front ++ text (drop (i + 1) xs)) (text_more text law xs i d low)

spaced-append : (a b : List (List ℕ)) → spaced (a ++ b) ≡ spaced a ++ spaced b
spaced-append [] b = refl
spaced-append (field ∷ a) b = ap (λ (rest : List ℕ). (32 ∷ field) ++ rest) (spaced-append a b) ∙ sym (append_assoc (32 ∷ field) (spaced a) (spaced b))

fields-append : {X : Type 0} (field : X → List ℕ) (a b : List X) → spaced (map field (a ++ b)) ≡ spaced (map field a) ++ spaced (map field b)
fields-append field a b = ap spaced (map-append field a b) ∙ spaced-append (map field a) (map field b)

-- fields, each with a space in front: one more
pub spaced_more : {X : Type 0} (field : X → List ℕ) (xs : List X) (i : ℕ) (d : X) → i < length xs → spaced (map field (take (i + 1) xs)) ≡ spaced (map field (take i xs)) ++ (32 ∷ field (get_or xs i d))
spaced_more field xs i d low =
    text_more (λ ys. spaced (map field ys)) (fields-append field) xs i d low
    ∙ ap (λ (text : List ℕ). spaced (map field (take i xs)) ++ text) (append-nil (32 ∷ field (get_or xs i d)))

pub spaced_all : {X : Type 0} (field : X → List ℕ) (xs : List X) (i : ℕ) (d : X) → i < length xs
    → spaced (map field xs) ≡ (spaced (map field (take i xs)) ++ (32 ∷ field (get_or xs i d))) ++ spaced (map field (drop (i + 1) xs))
spaced_all field xs i d low =
    text_all (λ ys. spaced (map field ys)) (fields-append field) xs i d low
    ∙ ap (λ (text : List ℕ). (spaced (map field (take i xs)) ++ text) ++ spaced (map field (drop (i + 1) xs))) (append-nil (32 ∷ field (get_or xs i d)))

pub side_text-append : (a b : List Bool) → side_text (a ++ b) ≡ side_text a ++ side_text b
side_text-append [] b = refl
side_text-append (inside ∷ a) b = ap (λ (rest : List ℕ). side_text (inside ∷ []) ++ rest) (side_text-append a b)

-- the rest of a line is its fields, and the line feed
pub rest_is : (fields : List (List ℕ)) → spaced fields ++ 10 ∷ [] ≡ rest_of_line fields
rest_is [] = refl
rest_is (field ∷ fields) = append_assoc (32 ∷ field) (spaced fields) (10 ∷ []) ∙ ap (λ (rest : List ℕ). (32 ∷ field) ++ rest) (rest_is fields)

joined : (field : List ℕ) (fields : List (List ℕ)) → join_with_byte 32 (field ∷ fields) ≡ field ++ spaced fields
joined field [] = sym (append-nil field)
joined field (next ∷ fields) = ap (λ (rest : List ℕ). field ++ (32 ∷ rest)) (joined next fields)

-- a line is its first field, and the rest
pub line_is : (field : List ℕ) (fields : List (List ℕ)) → field ++ rest_of_line fields ≡ line (field ∷ fields)
line_is field fields =
    ap (λ (rest : List ℕ). field ++ rest) (sym (rest_is fields)) ∙ sym (append_assoc field (spaced fields) (10 ∷ []))
    ∙ ap (λ (text : List ℕ). text ++ 10 ∷ []) (sym (joined field fields))

pub rest-append : (fields others : List (List ℕ)) → spaced fields ++ rest_of_line others ≡ rest_of_line (fields ++ others)
rest-append [] others = refl
rest-append (field ∷ fields) others =
    append_assoc (32 ∷ field) (spaced fields) (rest_of_line others) ∙ ap (λ (rest : List ℕ). (32 ∷ field) ++ rest) (rest-append fields others)

-- a line is its head, and the rest
pub head_then : (word : List ℕ) (indices : List ℕ) (fields : List (List ℕ)) → head_text word indices ++ rest_of_line fields ≡ line (head word indices ++ fields)
head_then word indices fields =
    append_assoc word (spaced (map decimal indices)) (rest_of_line fields)
    ∙ ap (λ (rest : List ℕ). word ++ rest) (rest-append (map decimal indices) fields)
    ∙ line_is word (map decimal indices ++ fields)

-- and what stands after it
pub line_then : (word : List ℕ) (indices : List ℕ) (fields : List (List ℕ)) (rest : List ℕ) → line (head word indices ++ fields) ++ rest ≡ head_text word indices ++ (spaced fields ++ (10 ∷ rest))
line_then word indices fields rest =
    ap (λ (t : List ℕ). t ++ rest) (sym (head_then word indices fields) ∙ ap (λ (t : List ℕ). head_text word indices ++ t) (sym (rest_is fields)))
    ∙ by (head_text word indices) (spaced fields)
  where
    by : (a b : List ℕ) → (a ++ (b ++ 10 ∷ [])) ++ rest ≡ a ++ (b ++ (10 ∷ rest))
    by a b = simp append_assoc
