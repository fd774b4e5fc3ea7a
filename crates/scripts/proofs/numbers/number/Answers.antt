use Rattle.std.proofs.Common.{◌≡◌, sym, ◌∙◌, subst}
use Rattle.std.specs.Prelude.{IsUtf8}
use Rattle.std.specs.Str.Parse.{ParsesUnsigned}
use Rattle.std.proofs.lemmas.Bool.{eqb-true}
use Rattle.std.proofs.lemmas.Fmt.{IsAscii-decimal, parse-decimal}
use Rattle.std.proofs.lemmas.Str.{IsUtf8-from_ascii}
use Rattle.scripts.proofs.Digits.{no_digit, of_digit, no_leading_zero, no_sign, prints_back}
use Rattle.scripts.proofs.numbers.number.Goals as goal

pub returns-then-is_empty : goal.returns-then-is_empty
returns-then-is_empty c n lt is = no_digit n c.args.word.now lt (eqb-true _ _ (sym c.is_empty.ensures ∙ c.if-is_empty.true)) is

pub returns-then-word-eq1 : goal.returns-then-word-eq1
returns-then-word-eq1 c = of_digit _ _ c.if-word-eq1.true c.digit.ensures

pub returns-then-first-eq48 : goal.returns-then-first-eq48
returns-then-first-eq48 c n lt is = no_leading_zero n c.args.word.now lt c.if-word-eq1.false c.if-first-eq48.true is

pub returns-then-first-eq43 : goal.returns-then-first-eq43
returns-then-first-eq43 c n lt is = no_sign n c.args.word.now lt c.if-first-eq43.true is

pub returns-in_default : goal.returns-in_default
returns-in_default c n lt is = c.in_default.ensures.cases.0 (subst IsUtf8 (sym is) (IsUtf8-from_ascii _ (IsAscii-decimal n lt)))

pub returns-in_default-parse : goal.returns-in_default-parse
returns-in_default-parse c n lt is = c.in_default-parse.not-Ok n (parse-decimal 64 n c.in-Ok.text.now c.parse.result lt lt (c.in-Ok.ensures.cases.0 ∙ is) c.parse.ensures.value.0)

pub returns : goal.returns
returns c =
    let same : c.in-Ok.text.now ≡ c.args.word.now = c.in-Ok.ensures.cases.0 in
    prints_back _ c.args.word.now c.parse.result (subst (λ bs. ParsesUnsigned 64 10 bs c.parse.result) same c.parse.ensures.value.0) c.in-Ok-parse.is c.if-first-eq48.false c.if-first-eq43.false
