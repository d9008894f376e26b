-- Numbers in two digits.
use Rattle.std.proofs.Common.{◌≡◌, ℕ, ◌-◌, ◌/◌, ◌%◌, ◌^◌, ◌<◌, ◌≤◌, ◌++◌, length, decimal, sym, ap, ◌∙◌, arith, ⊎_elim, lit<, append-nil, length-append}
use Rattle.std.proofs.lemmas.Bool.{cases_lt}
use Rattle.std.proofs.lemmas.Fmt.{decimal_digit, decimal_step, decimal_nonempty}
use Rattle.std.specs.Fmt.{padded_integral, char_count, format_spec, styled_decimal}
use Rattle.date.specs.Writing.{pair_text}

-- what `{:02}` writes of a byte
pub two_digits : (n : ℕ) → n < 256 → styled_decimal (format_spec 32 0 4 2 (2 ^ 64 - 1)) n ≡ pair_text n
unfolding padded_integral char_count
two_digits n small = ⊎_elim
    (λ unit. let high : n / 10 ≡ 0 = omega arith in let low : n % 10 ≡ n = omega arith in rw (decimal_digit n unit, high, low, decimal_digit 0 (lit< tt), decimal_digit n unit))
    (λ more.
    let step = decimal_step n more (omega arith) in
    let long : 2 ≤ length (decimal n) = rw step (omega (arith, decimal_nonempty (n / 10) (omega arith), length-append {A = ℕ})) in
    let none : 2 - length (decimal n) ≡ 0 = omega arith in
    rw none (append-nil (decimal n) ∙ step ∙ ap (λ ds. decimal (n / 10) ++ ds) (sym (decimal_digit (n % 10) (omega arith)))))
    (cases_lt n 10)
