-- What `find` asks of its test along a range of whole numbers, and what it finds.
use Rattle.std.proofs.Common.{◌≡◌, ◌<◌, ℤ, pos, negsuc, ◌+ℤ◌, ◌≤ℤ◌, ◌<ℤ◌, Bool, true, false, List, [], ◌∷◌, ◌⊎◌, inl, inr, ⊎_elim, Option, Some, None, MatchOption, IfSome, Bor, refl, sym, subst, ap, ◌∙◌, arith}
use denote.Param.Members.{Mut}
use Rattle.std.proofs.lemmas.Int.{ints}
use Rattle.std.specs.declared.iter.Rev.{Rev}
use Rattle.std.specs.declared.ops.Range.{Range}
use Rattle.std.specs.Fn.{CalledAt}
use Rattle.std.specs.Int.{int_gap}
use Rattle.std.specs.Iterator.{Yields, FindsItem, CallableAtEachTurn}
use Rattle.std.specs.Iterator.Adapters.{rev_source, rev_steps}
use Rattle.std.specs.List.{FoldsTo}
use Rattle.std.specs.Range.{range_steps, range_steps_back}

abbrev ups : Range ℤ → Option ℤ → Range ℤ → Type 0
ups = range_steps int_gap (λ x y. y ≡ x +ℤ pos 1)

abbrev downs : Rev (Range ℤ) → Option ℤ → Rev (Range ℤ) → Type 0
downs = rev_steps (range_steps_back int_gap (λ x y. y ≡ x +ℤ pos 1))

-- ---- how far a range goes

above : (a b : ℤ) → 0 < int_gap a b → a <ℤ b
above (pos a) (pos b) h = omega (arith, ints)
above (pos a) (negsuc b) h = absurd (omega arith)
above (negsuc a) (pos b) h = omega (arith, ints)
above (negsuc a) (negsuc b) h = omega (arith, ints)

not_above : (a b : ℤ) → int_gap a b ≡ 0 → b ≤ℤ a
not_above (pos a) (pos b) h = omega (arith, ints)
not_above (pos a) (negsuc b) h = omega (arith, ints)
not_above (negsuc a) (pos b) h = absurd (omega arith)
not_above (negsuc a) (negsuc b) h = omega (arith, ints)

-- ---- what passes, where the calls leave the test as it was

still : {F A : Type 0} (R : F → A → F → Type 0) (f : F) → ((x : A) (q : F) → R f x q → q ≡ f) → (xs : List A) (q : F) → FoldsTo R f xs q → q ≡ f
still R f h [] q c = sym c
still R f h (x ∷ xs) q c = still R f h xs q (subst (λ k. FoldsTo R k xs q) (h x c.0 c.1) c.2)

pub passes : {S F A : Type 0} (steps : S → Option A → S → Type 0) {g : Mut F (Bor A × Unit {0}) Bool} (s u : S) (f : F) (r : Option A) (Yes : A → Type 0) → FindsItem steps g s f r u
    → ((x : A) (q : F) → CalledAt g f x true q → Yes x) → ((x : A) (q : F) → CalledAt g f x false q → q ≡ f) → IfSome r Yes
passes steps s u f None Yes d yes' no' = tt
passes steps {g} s u f (Some x) Yes d yes' no' = yes' x d.4.0 (subst (λ k. CalledAt g k x true d.4.0) (still (λ p x q. CalledAt g p x false q) f no' d.0 d.1 d.3) d.4.1)

-- ---- from the end back, each number the end at a call that answered false

abbrev low : Rev (Range ℤ) → ℤ
low s = (rev_source s).start

abbrev high : Rev (Range ℤ) → ℤ
high s = (rev_source s).end

gone_down : {P : Type 0} (R : P → ℤ → P → Type 0) (No : ℤ → Type 0) (p : P) → ((x : ℤ) (q : P) → R p x q → (q ≡ p) × No x) → (xs : List ℤ) (s t : Rev (Range ℤ)) (q : P) → Yields downs s xs t → FoldsTo R p xs q → low s ≤ℤ high s
    → (low t ≡ low s) × (low t ≤ℤ high t) × (high t ≤ℤ high s) × (q ≡ p) × ((high t ≡ high s) ⊎ No (high t))
gone_down R No p h [] s t q y c l =
    let d : low t ≡ low s = sym (ap low y) in
    let e : high t ≡ high s = sym (ap high y) in
    (d, omega (arith, ints, d, e), omega (arith, ints, e), sym c, inl e)
gone_down R No p h (x ∷ xs) s t q y c l =
    let g = above (low s) (high s) y.1.1.0 in
    let k = h x c.0 c.1 in
    let r = gone_down R No p h xs y.0 t q y.2 (subst (λ k. FoldsTo R k xs q) k.0 c.2) (omega (arith, ints, y.1.0, y.1.1.2)) in
    (r.0 ∙ y.1.0, r.1, omega (arith, ints, r.2, y.1.1.2), r.3, ⊎_elim (λ e. inr (subst No (omega (arith, ints, e, y.1.1.1)) k.1)) inr r.4)

pub asked_down : {P : Type 0} {R : P → ℤ → P → Type 0} {Q : P → ℤ → Type 0} {s : Rev (Range ℤ)} {p : P}
    → low s ≤ℤ high s → ((x : ℤ) (q : P) → R p x q → q ≡ p) → ((x : ℤ) → low s ≤ℤ x → x <ℤ high s → Q p x) → CallableAtEachTurn downs R Q s p
asked_down {P} {R} {Q} {s} {p} l stays h = record {
  at = λ xs t q x u y c e.
      let w = gone_down R (λ _. Unit {0}) p (λ x q k. (stays x q k, tt)) xs s t q y c l in
      let a = above (low t) (high t) e.1.0 in
      subst (λ k. Q k x) (sym w.3) (h x (omega (arith, ints, w.0, e.1.1, e.1.2)) (omega (arith, ints, w.2, e.1.1, e.1.2)));
}

-- none passes only if the first does not
pub found_down : {F : Type 0} {g : Mut F (Bor ℤ × Unit {0}) Bool} (s u : Rev (Range ℤ)) (f : F) (r : Option ℤ) (Yes No : ℤ → Type 0) → FindsItem downs g s f r u → low s <ℤ high s
    → ((x : ℤ) (q : F) → CalledAt g f x true q → Yes x) → ((x : ℤ) (q : F) → CalledAt g f x false q → (q ≡ f) × No x)
    → MatchOption r (No (low s)) (λ x. (low s ≤ℤ x) × (x <ℤ high s) × Yes x)
found_down {F} {g} s u f None Yes No d l yes' no' =
    let w = gone_down (λ p x q. CalledAt g p x false q) No f no' d.0 s d.2.0 d.1 d.2.1 d.3 (omega (arith, ints)) in
    let a = not_above (low d.2.0) (high d.2.0) d.2.2.1.0 in
    ⊎_elim (λ e. absurd (omega (arith, ints, e, w.0))) (λ k. subst No (omega (arith, ints, w.0, w.1)) k) w.4
found_down {F} {g} s u f (Some x) Yes No d l yes' no' =
    let w = gone_down (λ p x q. CalledAt g p x false q) No f no' d.0 s d.2.0 d.1 d.2.1 d.3 (omega (arith, ints)) in
    let e = d.2.2.1 in
    let a = above (low d.2.0) (high d.2.0) e.0 in
    (omega (arith, ints, w.0, e.1, e.2), omega (arith, ints, w.2, e.1, e.2), yes' x d.4.0 (subst (λ k. CalledAt g k x true d.4.0) w.3 d.4.1))

-- ---- from the start on, each next number at a call that answered false

gone_up : {P : Type 0} (R : P → ℤ → P → Type 0) (Q : ℤ → Type 0) (p : P) (a b : ℤ) → ((x : ℤ) (q : P) → a ≤ℤ x → x <ℤ b → R p x q → (q ≡ p) × Q (x +ℤ pos 1)) → (xs : List ℤ) (s t : Range ℤ) (q : P) → Yields ups s xs t → FoldsTo R p xs q → a ≤ℤ s.start → s.end ≡ b → s.start ≤ℤ s.end
    → (t.end ≡ s.end) × (s.start ≤ℤ t.start) × (t.start ≤ℤ t.end) × (q ≡ p) × ((t.start ≡ s.start) ⊎ Q t.start)
gone_up R Q p a b h [] s t q y c i j l =
    let d : t.start ≡ s.start = sym (ap (λ (k : Range ℤ). k.start) y) in
    let e : t.end ≡ s.end = sym (ap (λ (k : Range ℤ). k.end) y) in
    (e, omega (arith, ints), omega (arith, ints), sym c, inl d)
gone_up R Q p a b h (x ∷ xs) s t q y c i j l =
    let g = above s.start s.end y.1.1.0 in
    let k = h x c.0 (omega (arith, ints, y.1.1.1)) (omega (arith, ints, y.1.1.1)) c.1 in
    let r = gone_up R Q p a b h xs y.0 t q y.2 (subst (λ k. FoldsTo R k xs q) k.0 c.2) (omega (arith, ints, y.1.1.2)) (y.1.0 ∙ j) (omega (arith, ints, y.1.0, y.1.1.2)) in
    (r.0 ∙ y.1.0, omega (arith, ints, r.1, y.1.1.2), r.2, r.3, ⊎_elim (λ e. inr (subst Q (omega (arith, ints, e, y.1.1.1, y.1.1.2)) k.1)) inr r.4)

pub asked_up : {P : Type 0} {R : P → ℤ → P → Type 0} {Q : P → ℤ → Type 0} {s : Range ℤ} {p : P}
    → s.start ≤ℤ s.end → ((x : ℤ) (q : P) → R p x q → q ≡ p) → ((x : ℤ) → s.start ≤ℤ x → x <ℤ s.end → Q p x) → CallableAtEachTurn ups R Q s p
asked_up {P} {R} {Q} {s} {p} l stays h = record {
  at = λ xs t q x u y c e.
      let w = gone_up R (λ _. Unit {0}) p s.start s.end (λ x q i j k. (stays x q k, tt)) xs s t q y c (omega (arith, ints)) refl l in
      let a = above t.start t.end e.1.0 in
      subst (λ k. Q k x) (sym w.3) (h x (omega (arith, ints, w.1, e.1.1)) (omega (arith, ints, w.0, e.1.1)));
}

pub found_up : {F : Type 0} {g : Mut F (Bor ℤ × Unit {0}) Bool} (s u : Range ℤ) (f : F) (r : Option ℤ) (Yes Q : ℤ → Type 0) → FindsItem ups g s f r u → s.start ≤ℤ s.end
    → ((x : ℤ) (q : F) → s.start ≤ℤ x → x <ℤ s.end → CalledAt g f x true q → Yes x) → ((x : ℤ) (q : F) → s.start ≤ℤ x → x <ℤ s.end → CalledAt g f x false q → (q ≡ f) × Q (x +ℤ pos 1))
    → MatchOption r ((s.end ≡ s.start) ⊎ Q s.end) (λ x. (s.start ≤ℤ x) × (x <ℤ s.end) × ((x ≡ s.start) ⊎ Q x) × Yes x)
found_up {F} {g} s u f None Yes Q d l yes' no' =
    let w = gone_up (λ p x q. CalledAt g p x false q) Q f s.start s.end no' d.0 s d.2.0 d.1 d.2.1 d.3 (omega (arith, ints)) refl l in
    let a = not_above d.2.0.start d.2.0.end d.2.2.1.0 in
    let e : d.2.0.start ≡ s.end = omega (arith, ints, w.0, w.2) in
    ⊎_elim (λ k. inl (sym e ∙ k)) (λ k. inr (subst Q e k)) w.4
found_up {F} {g} s u f (Some x) Yes Q d l yes' no' =
    let w = gone_up (λ p x q. CalledAt g p x false q) Q f s.start s.end no' d.0 s d.2.0 d.1 d.2.1 d.3 (omega (arith, ints)) refl l in
    let a = above d.2.0.start d.2.0.end d.2.2.1.0 in
    let e : d.2.0.start ≡ x = sym d.2.2.1.1 in
    let low : s.start ≤ℤ x = omega (arith, ints, w.1) in
    let high : x <ℤ s.end = omega (arith, ints, w.0) in
    (low, high, ⊎_elim (λ k. inl (sym e ∙ k)) (λ k. inr (subst Q e k)) w.4, yes' x d.4.0 low high (subst (λ k. CalledAt g k x true d.4.0) w.3 d.4.1))
