-- What was sent, in two parts.
use Rattle.std.proofs.Common.{◌≡◌, ◌≢◌, ◌<◌, ◌+◌, ℕ, zero, suc, List, [], ◌∷◌, ◌++◌, Option, None, Some, Result, Ok, Err, length, length-append, drop, refl, arith, sym, subst, ap, ◌∙◌, append_assoc, append-nil}
use Rattle.std.specs.Int.{to_le_bytes, w32}
use Rattle.std.specs.Io.KnownBytes.{Appends}
use Rattle.std.proofs.KnownBytes.{Appends-trans}
use Rattle.request_stream.specs.Frames.{AppendsFront, AppendsPart, SendsBytes, answer_bytes}
use Rattle.request_stream.specs.declared.reply.ServeFault.{ServeFault}

-- what is missing behind the first n of more than n
pub rest_missing : (n : ℕ) (all : List ℕ) → n < length all → drop n all ≢ []
rest_missing n [] short none = absurd (let never : n < 0 = short in omega (arith, never))
rest_missing zero (x ∷ xs) short none = absurd (let clash : x ∷ xs ≡ [] = none in cc)
rest_missing (suc n) (x ∷ xs) short none = rest_missing n xs (let less : suc n < suc (length xs) = short in omega (arith, less)) none

-- a part of a line is a beginning of it
pub part_front : (b a : Option (List ℕ)) (line : List ℕ) → AppendsPart b a line → AppendsFront b a line
part_front b a line (sent, more, missing, split, first) = (sent, more, split, first)

no_more : (before sent more : List ℕ) → before ++ (sent ++ more) ≡ before ++ sent → more ≡ []
no_more before sent [] same = refl
no_more before sent (x ∷ xs) same =
    let longer : length before + (length sent + length (x ∷ xs)) ≡ length before + length sent =
    ap (λ n. length before + n) (sym (length-append sent (x ∷ xs))) ∙ (sym (length-append before (sent ++ (x ∷ xs))) ∙ (ap length same ∙ length-append before sent)) in
    absurd (omega (arith, longer))

-- and what is missing keeps it from being all of it
pub never_all : (before line : List ℕ) (after : Option (List ℕ)) → AppendsPart (Some before) after line → Appends (Some before) after line → ⊥
never_all before line None (sent, more, missing, split, first) whole = first
never_all before line (Some after) (sent, more, missing, split, first) whole = missing (no_more before sent more (ap (λ l. before ++ l) split ∙ (sym whole ∙ first)))

-- what is missing of a part is missing of a line that goes on behind it
pub missing_before : (more behind : List ℕ) → more ≢ [] → more ++ behind ≢ []
missing_before [] behind missing none = absurd (missing refl)
missing_before (x ∷ xs) behind missing none = absurd (let clash : x ∷ (xs ++ behind) ≡ [] = none in cc)

-- a part of a line that stands behind what was written
pub part_more : (b m a : Option (List ℕ)) (x y line : List ℕ) → x ++ y ≡ line → Appends b m x → AppendsPart m a y → AppendsPart b a line
part_more b m a x y line whole first (sent, more, missing, split, second) =
    (x ++ sent, more, missing, append_assoc x sent more ∙ ap (λ l. x ++ l) split ∙ whole, Appends-trans b m a x sent first second)

-- a part of its front is a part of a line
pub part_stop : (b a : Option (List ℕ)) (x y line : List ℕ) → x ++ y ≡ line → AppendsPart b a x → AppendsPart b a line
part_stop b a x y line whole (sent, more, missing, split, first) =
    (sent, more ++ y, missing_before more y missing, sym (append_assoc sent more y) ∙ ap (λ l. l ++ y) split ∙ whole, first)

-- the front of a front
pub front_more : (b m a : Option (List ℕ)) (x y due : List ℕ) → x ++ y ≡ due → Appends b m x → AppendsFront m a y → AppendsFront b a due
front_more b m a x y due whole first (sent, more, split, second) =
    (x ++ sent, more, append_assoc x sent more ∙ ap (λ l. x ++ l) split ∙ whole, Appends-trans b m a x sent first second)

pub front_stop : (b a : Option (List ℕ)) (x y due : List ℕ) → x ++ y ≡ due → AppendsFront b a x → AppendsFront b a due
front_stop b a x y due whole (sent, more, split, first) =
    (sent, more ++ y, sym (append_assoc sent more y) ∙ ap (λ l. l ++ y) split ∙ whole, first)

-- what was sent, and then the rest of it
pub sends_then : {T : Type 0} (b m a : Option (List ℕ)) (x y due : List ℕ) (r : Result T ServeFault) → x ++ y ≡ due → Appends b m x → SendsBytes m a y r → SendsBytes b a due r
sends_then b m a x y due (Ok v) whole first second = subst (Appends b a) whole (Appends-trans b m a x y first second)
sends_then b m a x y due (Err e) whole first (is, front) = (is, front_more b m a x y due whole first front)

-- the eight bytes of a reply, and then its sector
pub head_then : (code status tag : ℕ) (sector head : List ℕ) → head ≡ answer_bytes code status tag [] → head ++ sector ≡ answer_bytes code status tag sector
head_then code status tag sector head is =
    ap (λ l. l ++ sector) is ∙ ap (λ l. 100 ∷ 102 ∷ code ∷ status ∷ (l ++ sector)) (append-nil (to_le_bytes w32 tag))
