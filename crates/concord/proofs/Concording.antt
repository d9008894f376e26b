-- The dates of an answer are one day's.
use Rattle.std.proofs.Common.{◌≡◌, Ok, Err, Result, sym, refl, ◌∙◌}
use Rattle.date.specs.declared.dates.Date.{Date}
use Rattle.date.specs.declared.faults.Fault.{Fault}
use Rattle.date.specs.Days.{weekday_on}
use Rattle.date.specs.Refusals.{then}
use Rattle.calendar.proofs.Laws.{found_within}
use Rattle.concord.specs.declared.concordance.Answer.{Answer}
use Rattle.concord.specs.declared.reader.Line.{Line}
use Rattle.concord.specs.Answering.{date_of, columns_on, answered}
use Rattle.concord.specs.Calendars.{day_under}
use Rattle.concord.specs.Concordance.{Concordant}
use Rattle.concord.proofs.Dating.{law_of, dated_under}

-- an answer of two steps took both
both : {X Y : Type 0} (r : Result X Fault) (k : X → Result Y Fault) (y : Y) → then r k ≡ Ok y → (x : X) × (r ≡ Ok x) × (k x ≡ Ok y)
both (Ok x) k y h = (x, refl, h)
both (Err e) k y h = absurd (cc)

-- what an answer says of its line
record Told (l : Line) (a : Answer) : Type 0 where
  date : Date
  date_is : date_of l ≡ Ok date
  day_is : day_under l.letter date ≡ Ok a.day
  weekday_is : weekday_on a.day ≡ Ok a.weekday
  columns_are : columns_on a.day ≡ a.columns

told : (l : Line) (a : Answer) → answered (Ok l) ≡ Ok a → Told l a
told l a h =
    let p = both (date_of l) _ a h in
    let q = both (day_under l.letter p.0) _ a p.2 in
    let r = both (weekday_on q.0) _ a q.2 in
    let made : record { day = q.0; weekday = r.0; columns = columns_on q.0 } ≡ a = (let z = r.2 in cc) in
    record { date = p.0; date_is = p.1; day_is = cc; weekday_is = cc; columns_are = cc }

untold : (l : Line) (a : Answer) → Told l a → answered (Ok l) ≡ Ok a
untold l a t = rw (t.date_is, t.day_is, t.weekday_is, t.columns_are)

pub concordant : Concordant
concordant = record {
  dated = λ l a h x. let t = told l a h in dated_under x a.day (found_within _ (law_of l.letter) a.day t.date t.day_is);
  own = λ l a h. let t = told l a h in ((law_of l.letter).exact a.day t.date).1 t.day_is ∙ sym t.date_is;
  same = λ l k a h e.
      let t = told l a h in
      let d = dated_under k.letter a.day (found_within _ (law_of l.letter) a.day t.date t.day_is) in
      untold k a (record {
        date = d.0;
        date_is = sym e ∙ d.1;
        day_is = ((law_of k.letter).exact a.day d.0).0 d.1;
        weekday_is = t.weekday_is;
        columns_are = t.columns_are;
      });
}
