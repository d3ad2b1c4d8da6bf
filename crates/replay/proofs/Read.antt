-- The words of a line, one after the other. Assumes nothing.
use Rattle.std.proofs.Common.{◌≡◌, ℕ, zero, suc, ◌-◌, List, [], ◌∷◌, ◌++◌, length, take, drop, Bool, true, false, cond, refl, ap, sym, ◌∙◌, ◌⊎◌, ◌≢◌, inl, inr, arith, append_assoc, append-nil}
use Rattle.std.specs.Prelude.{eqb, ◌&&◌, Option, Some, None, option_map, option_and_then}
use Rattle.std.specs.Bool.{then_some}
use Rattle.std.proofs.lemmas.Grind.{common_steps}
use lib.Pointwise.{pointwise}
use Rattle.text.specs.Words.{word_at}
use Rattle.replay.specs.Lines.{ends, words_in}

-- these words, and more where there are some
abbrev pub after : List ℕ → Option (List ℕ) → Option (List ℕ)
after words more = option_map (λ (w : List ℕ). words ++ w) more

pub after_none : (more : Option (List ℕ)) → after [] more ≡ more
after_none None = refl
after_none (Some w) = refl

after_more : (words : List ℕ) (w : ℕ) (more : Option (List ℕ))
    → after (words ++ (w ∷ [])) more ≡ after words (option_map (λ (l : List ℕ). w ∷ l) more)
after_more words w None = refl
after_more words w (Some l) = ap Some (append_assoc words (w ∷ []) l)

not_zero : (n : ℕ) → eqb (suc n) 0 ≡ false
not_zero n = grind (arith, common_steps)

-- where the text ends, and where no more words may follow, all are read
pub at_end : (n : ℕ) (l words : List ℕ) (ends : Bool) → ends ≡ eqb (length l) 0 → (ends ≡ true) ⊎ (n ≡ 0)
    → then_some ends words ≡ after words (words_in n l)
unfolding words_in
at_end zero [] words ends e h = rw e (ap Some (sym (append-nil words)))
at_end (suc n) [] words ends e h = rw e (ap Some (sym (append-nil words)))
at_end zero (b ∷ l) words ends e h = rw (e, not_zero (length l)) refl
at_end (suc n) (b ∷ l) words ends e (inl h) = absurd (grind (arith, common_steps))
at_end (suc n) (b ∷ l) words ends e (inr h) = absurd (omega arith)

-- no word begins where no space stands
pub no_space : (n : ℕ) (l : List ℕ) → eqb (length l) 0 ≡ false → pointwise eqb (take 1 l) (32 ∷ []) ≡ false → words_in n l ≡ None
unfolding words_in
no_space n [] h p = absurd (grind (arith, common_steps))
no_space zero (b ∷ l) h p = refl
no_space (suc n) (b ∷ l) h p = go (eqb b 32) p
  where
    go : (t : Bool) → ((t && true) ≡ false) → cond t (option_and_then (λ w. option_map (λ (words : List ℕ). w ∷ words) (words_in n (drop 8 l))) (word_at l 0)) None ≡ None
    go true q = absurd (grind (arith, common_steps))
    go false q = refl

-- the word after a space, and those after it
pub one_word : (n : ℕ) (l digits : List ℕ) → pointwise eqb (take 1 l) (32 ∷ []) ≡ true → digits ≡ drop 1 l
    → words_in (suc n) l ≡ option_and_then (λ w. option_map (λ (words : List ℕ). w ∷ words) (words_in n (drop 8 digits))) (word_at digits 0)
unfolding words_in
one_word n [] digits p e = absurd (grind (arith, common_steps))
one_word n (b ∷ l) digits p e = rw e (go (eqb b 32) p)
  where
    go : (t : Bool) → ((t && true) ≡ true) → cond t (option_and_then (λ w. option_map (λ (words : List ℕ). w ∷ words) (words_in n (drop 8 l))) (word_at l 0)) None
        ≡ option_and_then (λ w. option_map (λ (words : List ℕ). w ∷ words) (words_in n (drop 8 l))) (word_at l 0)
    go true q = refl
    go false q = absurd (grind (arith, common_steps))

pub no_word : (n : ℕ) (l digits : List ℕ) → n ≢ 0 → pointwise eqb (take 1 l) (32 ∷ []) ≡ true → digits ≡ drop 1 l → word_at digits 0 ≡ None → words_in n l ≡ None
no_word zero l digits some p e h = absurd (some refl)
no_word (suc n) l digits some p e h = one_word n l digits p e ∙ ap (option_and_then (λ w. option_map (λ (words : List ℕ). w ∷ words) (words_in n (drop 8 digits)))) h

pub next_word : (n m : ℕ) (l digits words : List ℕ) (w : ℕ) → n ≡ suc m → pointwise eqb (take 1 l) (32 ∷ []) ≡ true → digits ≡ drop 1 l → word_at digits 0 ≡ Some w
    → after (words ++ (w ∷ [])) (words_in m (drop 8 digits)) ≡ after words (words_in n l)
next_word n m l digits words w e p d h =
    rw e (after_more words w (words_in m (drop 8 digits)) ∙ sym (ap (after words) (one_word m l digits p d ∙ ap (option_and_then (λ (v : ℕ). option_map (λ (l : List ℕ). v ∷ l) (words_in m (drop 8 digits)))) h)))

-- the last byte of a text is a newline
last_after : (b : ℕ) (l : List ℕ) → pointwise eqb (drop (length l) (b ∷ l)) (10 ∷ []) ≡ ends (b ∷ l)
unfolding ends
last_after b [] = go (eqb b 10)
  where
    go : (t : Bool) → (t && true) ≡ t
    go true = refl
    go false = refl
last_after b (c ∷ l) = last_after c l

one_fewer : (n : ℕ) → suc n - 1 ≡ n
one_fewer n = omega arith

pub last_is : (l : List ℕ) → pointwise eqb (drop (length l - 1) l) (10 ∷ []) ≡ ends l
unfolding ends
last_is [] = refl
last_is (b ∷ l) = rw (one_fewer (length l)) (last_after b l)
