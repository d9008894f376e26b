-- Where the reading of an input stands is told by the front of the line that is in reading.
use Rattle.std.proofs.Common.{◌≡◌, ℕ, ◌<◌, ◌≤◌, true, false, cond, eqb, List, [], ◌∷◌, ◌++◌, map, Some, None, Ok, Err, Option, Result, sym, refl, ap, ◌∙◌, arith}
use Rattle.std.proofs.lemmas.Bool.{cond-false, ne_eqb}
use Rattle.date.specs.declared.faults.Fault.{Fault}
use Rattle.date.specs.Refusals.{then}
use Rattle.concord.specs.declared.lines.Lines.{Lines}
use Rattle.concord.specs.declared.reader.Line.{Line}
use Rattle.concord.specs.declared.reader.Reader.{Reader}
use Rattle.concord.specs.Inputs.{last_line, lines_after, all_taken, read_alone, noted, read_on, EachAlone}
use Rattle.concord.specs.Lines.{fresh, placed, finished, stepped, taken, rest, rest_by}
use Rattle.concord.specs.Reading.{next}

-- some byte of the line was read
abbrev Begun : Lines → Type 0
Begun t = (1 ≤ t.place) × ((r : Reader) → t.reading ≡ Ok r → 1 < t.place)

stepped_begun : (n : Result Reader Fault) (t : Lines) → 1 ≤ t.place → Begun (stepped n t)
stepped_begun (Ok r) t h = (omega arith, λ q e. omega arith)
stepped_begun (Err f) t h = (h, λ q e. absurd (cc))

taken_begun : (t : Lines) (b : ℕ) → 1 ≤ t.place → Begun (taken t b)
taken_begun t b h = stepped_begun (then t.reading (λ r. placed t.place (next r b))) t h

all_begun : (bs : List ℕ) (t : Lines) → Begun t → Begun (all_taken t bs)
all_begun [] t h = h
all_begun (b ∷ bs) t h = all_begun bs (taken t b) (taken_begun t b h.0)

rest_begun_by : (n : Result Reader Fault) (t : Lines) → t.reading ≡ n → Begun t → rest_by n t ≡ Some (finished t)
rest_begun_by (Ok r) t e h = let l : 1 < t.place = h.1 r e in cond-false _ _ _ (ne_eqb t.place 1 (λ z. omega arith))
rest_begun_by (Err f) t e h = refl

rest_begun : (t : Lines) → Begun t → rest t ≡ Some (finished t)
rest_begun t h = rest_begun_by t.reading t refl h

all_taken_push : (xs : List ℕ) (t : Lines) (b : ℕ) → all_taken t (xs ++ b ∷ []) ≡ taken (all_taken t xs) b
all_taken_push [] t b = refl
all_taken_push (x ∷ xs) t b = all_taken_push xs (taken t x) b

at_end : (front : List ℕ) → noted (rest (all_taken fresh front)) [] ≡ map read_alone (last_line front)
at_end [] = refl
at_end (b ∷ bs) =
    ap (λ (o : Option (Result Line Fault)). noted o []) (rest_begun (all_taken fresh (b ∷ bs)) (all_begun bs (taken fresh b) (taken_begun fresh b (omega arith))))

each_after : (bs : List ℕ) (t : Lines) (front : List ℕ) → t ≡ all_taken fresh front → read_on t bs ≡ map read_alone (lines_after front bs)
each_after [] t front e = ap (λ (t : Lines). noted (rest t) []) e ∙ at_end front
each_after (b ∷ bs) t front e =
    elim (eqb b 10) as (λ w.
    noted (cond {A = Option (Result Line Fault) × Lines} w (Some (finished t), fresh) (None, taken t b)).0 (read_on (cond {A = Option (Result Line Fault) × Lines} w (Some (finished t), fresh) (None, taken t b)).1 bs)
    ≡ map read_alone (cond w (front ∷ lines_after [] bs) (lines_after (front ++ b ∷ []) bs))) [
      | true ↦ (λ i. finished (e i) ∷ each_after bs fresh [] refl i)
      | false ↦ each_after bs (taken t b) (front ++ b ∷ []) (ap (λ (t : Lines). taken t b) e ∙ sym (all_taken_push front fresh b))
    ]

pub each_alone : EachAlone
each_alone bs = each_after bs fresh [] refl
