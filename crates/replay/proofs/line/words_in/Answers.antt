-- `replay::line::words_in` meets its contract. The words read so far, and those that are left, are the words. Assumes nothing.
use Rattle.std.proofs.Common.{◌≡◌, ◌++◌, ◌∷◌, [], ◌+◌, ◌-◌, ◌<◌, ℕ, suc, length, length-append, take, drop, true, sym, ap, ◌∙◌, ◌⊎◌, inl, inr, arith}
use Rattle.std.proofs.lemmas.Grind.{common_steps}
use Rattle.std.proofs.lemmas.List.{take_rest}
use Rattle.std.specs.Prelude.{None}
use Rattle.replay.specs.Lines.{words_in}
use Rattle.replay.proofs.Read.{after, at_end, no_space, no_word, next_word}
use Rattle.replay.proofs.line.words_in.Goals.{else-loop-test, then-loop-test+then-is_empty}
use Rattle.replay.proofs.line.words_in.Goals as goal

pub loop-preserved : goal.loop-preserved
loop-preserved c =
    let few : c.loop.counter < 16 = c.loop-test.true in
    let one : 16 - c.loop.counter ≡ suc (16 - (c.loop.counter + 1)) = omega (arith, few) in
    let more : c.with-words.result ≡ c.loop.words ++ (c.in_ok-word.field-0 ∷ []) = grind (arith, common_steps, c.loop.invariant.count) in
    let cut = c.in_ok-digits.ensures.cases in
    let next : after (c.loop.words ++ (c.in_ok-word.field-0 ∷ [])) (words_in (16 - (c.loop.counter + 1)) (drop 8 c.in_ok-digits.digits.now)) ≡ words_in 16 c.args.s.now =
    next_word _ _ c.loop.rest.now c.in_ok-digits.digits.now c.loop.words c.in_ok-word.field-0 one cut.0 cut.1 (sym c.word.ensures ∙ c.in_ok-word.was) ∙ c.loop.invariant.so_far in
    let all : after c.with-words.result (words_in (16 - (c.loop.counter + 1)) (take (length c.in_ok-digits.digits.now - 8) (drop 8 c.in_ok-digits.digits.now))) ≡ words_in 16 c.args.s.now =
    rw (more, take_rest c.in_ok-digits.digits.now 8) next in
    record { so_far = all; count = rw (more, length-append) (ap (λ (n : ℕ). n + 1) c.loop.invariant.count) }

pub returns : goal.returns
returns c =
    let ends : (c.is_empty-2.result ≡ true) ⊎ (16 - c.loop.counter ≡ 0) =
    elim c.loop-test.branch [
      | else-loop-test w ↦ inr (omega arith)
      | then-loop-test+then-is_empty w ↦ inl (c.is_empty-2.ensures ∙ sym w.is_empty.ensures ∙ w.if-is_empty.true)
    ] in
    c.then_some.ensures ∙ at_end (16 - c.loop.counter) c.loop.rest.now c.loop.words c.is_empty-2.result c.is_empty-2.ensures ends ∙ c.loop.invariant.so_far

pub returns-in_err-digits : goal.returns-in_err-digits
returns-in_err-digits c =
    let e : words_in (16 - c.loop.counter) c.loop.rest.now ≡ None =
    no_space (16 - c.loop.counter) c.loop.rest.now (sym c.is_empty.ensures ∙ c.if-is_empty.false) c.in_err-digits.ensures.cases in
    c.from_residual.ensures ∙ sym (ap (after c.loop.words) e) ∙ c.loop.invariant.so_far

pub returns-in_err-word : goal.returns-in_err-word
returns-in_err-word c =
    let cut = c.in_ok-digits.ensures.cases in
    let e : words_in (16 - c.loop.counter) c.loop.rest.now ≡ None =
    no_word (16 - c.loop.counter) c.loop.rest.now c.in_ok-digits.digits.now (omega arith) cut.0 cut.1 (sym c.word.ensures ∙ c.in_err-word.was) in
    c.from_residual-in_err-word.ensures ∙ sym (ap (after c.loop.words) e) ∙ c.loop.invariant.so_far
