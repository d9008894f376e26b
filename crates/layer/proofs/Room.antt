-- The room of a table: with one more row in it, and with a row amended.
use Rattle.std.proofs.Common.{◌≡◌, ℕ, zero, suc, ◌+◌, ◌-◌, ◌<◌, ◌≤◌, true, List, [], ◌∷◌, ◌++◌, length, get_or, take, set, replicate, pos, sym, refl, ap, subst, ◌∙◌, not-suc-le-zero, le_of_suc-le-suc, sub-one, arith}
use lib.Seq.{take-append_seam, set-append_seam}
use Rattle.std.proofs.lemmas.Bool.{cond-true, le-leb, and_from}
use Rattle.std.proofs.lemmas.List.{length-append, append_assoc}
use Rattle.calendar.specs.declared.rows.Row.{Row}
use Rattle.layer.specs.Rooms.{blank, in_room, Holds}
use Rattle.layer.specs.Tables.{number_fits, follows, last_first, rows_fit, renumbered, with_number}
use Rattle.layer.proofs.Rows.{fit_more, fit_renumbered, length_renumbered}

-- rows that fit, in their room
held : (xs : List Row) → rows_fit xs ≡ true → Holds (in_room xs) (length xs)
held xs f = let e = take-append_seam xs (replicate (16 - length xs) blank) in record { blank_behind = ap in_room e; filled = ap length e; fit = ap rows_fit e ∙ f }

-- a room that is rows in their room holds these rows, and nothing else
holds_these : (room xs : List Row) (n : ℕ) → room ≡ in_room xs → n ≡ length xs → rows_fit xs ≡ true → Holds room n × (take n room ≡ xs)
holds_these room xs n p q f =
    subst (λ m. Holds room m × (take m room ≡ xs)) (sym q)
    (subst (λ ys. Holds ys (length xs) × (take (length xs) ys ≡ xs)) (sym p) (held xs f, take-append_seam xs (replicate (16 - length xs) blank)))

-- ---- one more row takes up the first blank one

more_in : (xs : List Row) (r : Row) → length xs < 16 → set (in_room xs) (length xs) r ≡ in_room (xs ++ (r ∷ []))
more_in xs r l =
    let b : 16 - length xs ≡ suc (16 - (length xs + 1)) = omega arith in
    let m : 16 - length (xs ++ (r ∷ [])) ≡ 16 - (length xs + 1) = ap (λ n. 16 - n) (length-append xs (r ∷ [])) in
    ap (λ n. set (xs ++ replicate n blank) (length xs) r) b
    ∙ (set-append_seam xs blank (replicate (16 - (length xs + 1)) blank) r
    ∙ (sym (append_assoc xs (r ∷ []) (replicate (16 - (length xs + 1)) blank)) ∙ ap (λ n. (xs ++ (r ∷ [])) ++ replicate n blank) (sym m)))

pub holds_more : (room : List Row) (n : ℕ) (r : Row) → Holds room n → n < 16 → follows (last_first (pos 0) (take n room)) r ≡ true → Holds (set room n r) (n + 1) × (take (n + 1) (set room n r) ≡ take n room ++ (r ∷ []))
holds_more room n r h l f =
    let xs = take n room in
    let k : length xs < 16 = subst (λ m. m < 16) (sym h.filled) l in
    let p : set room n r ≡ in_room (xs ++ (r ∷ [])) = (λ i. set (sym h.blank_behind i) (sym h.filled i) r) ∙ more_in xs r k in
    let q : n + 1 ≡ length (xs ++ (r ∷ [])) = ap (λ m. m + 1) (sym h.filled) ∙ sym (length-append xs (r ∷ [])) in
    holds_these (set room n r) (xs ++ (r ∷ [])) (n + 1) p q (fit_more xs r h.fit k f)

-- ---- a row amended in its place

abbrev pub amended_in : List Row → ℕ → ℕ → List Row
amended_in room i k = set room i (record { first = (get_or room i blank).first; number = k })

in_front : (xs zs : List Row) (i k : ℕ) → i < length xs → amended_in (xs ++ zs) i k ≡ renumbered xs i k ++ zs
in_front [] zs i k h = absurd (not-suc-le-zero h)
in_front (x ∷ xs) zs zero k h = refl
in_front (x ∷ xs) zs (suc i) k h = ap (λ ys. x ∷ ys) (in_front xs zs i k (le_of_suc-le-suc h))

pub holds_amended : (room : List Row) (n i k : ℕ) → Holds room n → i < n → number_fits k ≡ true → Holds (amended_in room i k) n × (take n (amended_in room i k) ≡ renumbered (take n room) i k)
holds_amended room n i k h l f =
    let xs = take n room in
    let j : i < length xs = subst (λ m. i < m) (sym h.filled) l in
    let e = length_renumbered xs i k in
    let p : amended_in room i k ≡ in_room (renumbered xs i k) =
    ap (λ ys. amended_in ys i k) (sym h.blank_behind)
    ∙ (in_front xs (replicate (16 - length xs) blank) i k j ∙ ap (λ m. renumbered xs i k ++ replicate (16 - m) blank) (sym e)) in
    holds_these (amended_in room i k) (renumbered xs i k) n p (sym h.filled ∙ sym e) (fit_renumbered xs i k f h.fit)

pub renumbered_by : (rows : List Row) (i k : ℕ) → 1 ≤ i → i ≤ length rows → number_fits k ≡ true → renumbered rows (i - 1) k ≡ with_number rows i k
renumbered_by rows i k h l f = ap (λ j. renumbered rows j k) (sub-one i) ∙ sym (cond-true _ _ _ (and_from _ _ (le-leb 1 i h) (and_from _ _ (le-leb _ _ l) f)))
