-- A geometry that fits in another arrangement, piece by piece.
use Rattle.std.proofs.Common.{◌≡◌, ℕ, zero, suc, ◌+◌, ◌/◌, ◌%◌, ◌<◌, Bool, true, false, cond, List, [], ◌∷◌, ◌++◌, Option, Some, None, refl, sym, ap, ◌∙◌, arith}
use Rattle.std.specs.Prelude.{◌||◌, codes, is_some, nat_eq}
use Rattle.std.specs.Fmt.{decimal, digit_glyph, digits_onto, digits}
use Rattle.std.proofs.lemmas.Bool.{lt-ltb}
use Rattle.std.proofs.lemmas.Nat.{mod_below}
use Rattle.std.proofs.lemmas.Grind.{flat_map-append}
use Rattle.json.specs.Print.{escape, escape_byte}
use Rattle.serde_json.specs.Data.{member}
use Rattle.serde_json.specs.Written.{compact_text, members_text}
use Rattle.lab_dump.specs.declared.fit.Fit.{Fit}
use Rattle.lab_arrange.specs.declared.arrangement.Arrangement.{Arrangement}
use Rattle.lab_arrange.specs.declared.arrangement.Spares.{Spares}
use Rattle.lab_arrange.specs.declared.arrangement.Spares.TheVariants.{Block, Die}
use Rattle.lab_shapes.specs.declared.find.ArrangedFit.{ArrangedFit}
use Rattle.lab_shapes.specs.Words.{around_words, arrangement_words, cut_words, flag_words, byte_order_words, spares_words}
use Rattle.lab_commands.specs.Values.{arranged_fit_data, arranged_rest, count, fit_members, fit_rest_words}
use Rattle.lab_commands.proofs.JsonLemmas.{quoted_in}

-- ---- plain text

pub order_pieces : (before : Bool) (a : Arrangement) (b1 b2 b3 b4 : Bool) (w1 w2 w3 w4 w5 : List ℕ) → b1 ≡ (before || is_some a.spares) → b2 ≡ (before || is_some a.spares || a.spare_first) → b3 ≡ (before || is_some a.spares || a.spare_first || a.swapped)
    → b4 ≡ (before || is_some a.spares || a.spare_first || a.swapped || a.inverted) → w1 ≡ spares_words before a.spares → w2 ≡ flag_words b1 a.spare_first (codes "spare-first") → w3 ≡ flag_words b2 a.swapped (codes "swapped")
    → w4 ≡ flag_words b3 a.inverted (codes "inverted") → w5 ≡ flag_words b4 a.planes (codes "planes=2") → w1 ++ (w2 ++ (w3 ++ (w4 ++ w5))) ≡ byte_order_words before a
order_pieces before a b1 b2 b3 b4 w1 w2 w3 w4 w5 f1 f2 f3 f4 e1 e2 e3 e4 e5 = rw (e1, e2, e3, e4, e5, f1, f2, f3, f4) refl

-- ---- words that stand in JSON as they are

plain_both : (xs ys : List ℕ) → escape xs ≡ xs → escape ys ≡ ys → escape (xs ++ ys) ≡ xs ++ ys
plain_both xs ys e f = flat_map-append escape_byte xs ys ∙ (ap (λ t. t ++ escape ys) e ∙ ap (λ t. xs ++ t) f)

plain_digit : (d : ℕ) → d < 10 → escape_byte (48 + d) ≡ (48 + d) ∷ []
unfolding escape_byte
plain_digit zero l = refl
plain_digit (suc zero) l = refl
plain_digit (suc (suc zero)) l = refl
plain_digit (suc (suc (suc zero))) l = refl
plain_digit (suc (suc (suc (suc zero)))) l = refl
plain_digit (suc (suc (suc (suc (suc zero))))) l = refl
plain_digit (suc (suc (suc (suc (suc (suc zero)))))) l = refl
plain_digit (suc (suc (suc (suc (suc (suc (suc zero))))))) l = refl
plain_digit (suc (suc (suc (suc (suc (suc (suc (suc zero)))))))) l = refl
plain_digit (suc (suc (suc (suc (suc (suc (suc (suc (suc zero))))))))) l = refl
plain_digit (suc (suc (suc (suc (suc (suc (suc (suc (suc (suc d)))))))))) l = absurd (omega arith)

plain_glyph : (n : ℕ) (acc : List ℕ) → escape acc ≡ acc → escape (digit_glyph false (n % 10) ∷ acc) ≡ digit_glyph false (n % 10) ∷ acc
plain_glyph n acc h =
    let few : n % 10 < 10 = mod_below n 10 (omega arith) in
    let is : digit_glyph false (n % 10) ≡ 48 + n % 10 = ap (λ b. cond b (48 + n % 10) (87 + n % 10)) (lt-ltb (n % 10) 10 few) in
    ap (λ d. escape (d ∷ acc)) is ∙ (ap (λ t. t ++ escape acc) (plain_digit (n % 10) few) ∙ (ap (λ t. (48 + n % 10) ∷ t) h ∙ ap (λ d. d ∷ acc) (sym is)))

plain_onto : (k n : ℕ) (acc : List ℕ) → escape acc ≡ acc → escape (digits_onto k 10 false n acc) ≡ digits_onto k 10 false n acc
plain_onto zero n acc h = h
plain_onto (suc k) n acc h = by (nat_eq (n / 10) 0) (plain_glyph n acc h) (plain_onto k (n / 10) (digit_glyph false (n % 10) ∷ acc) (plain_glyph n acc h))
  where
    by : (b : Bool) → escape (digit_glyph false (n % 10) ∷ acc) ≡ digit_glyph false (n % 10) ∷ acc
        → escape (digits_onto k 10 false (n / 10) (digit_glyph false (n % 10) ∷ acc)) ≡ digits_onto k 10 false (n / 10) (digit_glyph false (n % 10) ∷ acc)
        → escape (cond b (digit_glyph false (n % 10) ∷ acc) (digits_onto k 10 false (n / 10) (digit_glyph false (n % 10) ∷ acc))) ≡ cond b (digit_glyph false (n % 10) ∷ acc) (digits_onto k 10 false (n / 10) (digit_glyph false (n % 10) ∷ acc))
    by true last more = last
    by false last more = more

plain_decimal : (n : ℕ) → escape (decimal n) ≡ decimal n
unfolding digits
plain_decimal n = plain_onto 64 n [] refl

plain_around : (header tail : Option ℕ) → escape (around_words header tail) ≡ around_words header tail
unfolding escape_byte
plain_around (Some n) tail = plain_both (codes "header=") (decimal n) refl (plain_decimal n)
plain_around None (Some n) = plain_both (codes "tail=") (decimal n) refl (plain_decimal n)
plain_around None None = refl

plain_cut : (before : Bool) (cut : Option ℕ) → escape (cut_words before cut) ≡ cut_words before cut
unfolding escape_byte
plain_cut before None = refl
plain_cut false (Some n) = plain_both (codes "cut=") (decimal n) refl (plain_decimal n)
plain_cut true (Some n) = plain_both (codes ",cut=") (decimal n) refl (plain_decimal n)

plain_spares : (before : Bool) (s : Option Spares) → escape (spares_words before s) ≡ spares_words before s
unfolding escape_byte
plain_spares before None = refl
plain_spares false (Some Block) = refl
plain_spares true (Some Block) = refl
plain_spares false (Some Die) = refl
plain_spares true (Some Die) = refl

plain_flag : (before told : Bool) (w : List ℕ) → escape w ≡ w → escape (flag_words before told w) ≡ flag_words before told w
unfolding escape_byte
plain_flag before false w h = refl
plain_flag false true w h = h
plain_flag true true w h = ap (λ t. 44 ∷ t) h

plain_order : (before : Bool) (a : Arrangement) → escape (byte_order_words before a) ≡ byte_order_words before a
unfolding escape_byte
plain_order before a =
    plain_both (spares_words before a.spares) _ (plain_spares before a.spares)
    (plain_both (flag_words _ a.spare_first (codes "spare-first")) _ (plain_flag _ a.spare_first (codes "spare-first") refl)
    (plain_both (flag_words _ a.swapped (codes "swapped")) _ (plain_flag _ a.swapped (codes "swapped") refl)
    (plain_both (flag_words _ a.inverted (codes "inverted")) (flag_words _ a.planes (codes "planes=2")) (plain_flag _ a.inverted (codes "inverted") refl) (plain_flag _ a.planes (codes "planes=2") refl))))

plain_arrangement : (a : Arrangement) → escape (arrangement_words a) ≡ arrangement_words a
unfolding arrangement_words
plain_arrangement a =
    let around = is_some a.header || is_some a.tail in
    plain_both (around_words a.header a.tail) _ (plain_around a.header a.tail) (plain_both (cut_words around a.cut) _ (plain_cut around a.cut) (plain_order _ a))

-- ---- the object

pub arranged_parts : (f : Fit) → (codes "\",\"blocks_told\":" ++ decimal f.blocks_told) ++ fit_rest_words f ≡ arranged_rest f
unfolding escape_byte
arranged_parts f = refl

pub arranged_json : (found : ArrangedFit) → codes "{\"arrange\":\"" ++ (arrangement_words found.arrangement ++ arranged_rest found.fit) ≡ compact_text (arranged_fit_data found)
unfolding escape_byte
arranged_json found =
    ap (λ t. codes "{\"arrange\":" ++ t) (sym (quoted_in (arrangement_words found.arrangement) (members_text true (member (codes "blocks_told") (count found.fit.blocks_told) (fit_members found.fit))) (plain_arrangement found.arrangement)))
