-- Lists of words and the bytes that spell them.
use Rattle.std.proofs.Common.{◌≡◌, ℕ, zero, suc, ◌*◌, ◌^◌, ◌<◌, List, [], ◌∷◌, ◌++◌, length, get_or, refl, sym, ap, ◌∙◌, arith}
use Rattle.std.specs.List.{flat_map}
use Rattle.std.specs.Int.{w32, to_le_bytes}
use Rattle.std.proofs.lemmas.Nat.{le_bytes_4, from_le_bytes-to_le_bytes_4}
use Rattle.page_layout.specs.Word.{word_at}
use Rattle.page_layout.proofs.WordLemmas.{word_at-shift, four_below}
use Rattle.bad_blocks.specs.TablePage.{word_bytes}

pub length-words : (words : List ℕ) → length (flat_map word_bytes words) ≡ 4 * length words
unfolding word_bytes
length-words [] = refl
length-words (w ∷ words) = let ih = length-words words in omega arith

-- the words of what spells them
pub words_spelled : (words : List ℕ) (i : ℕ) → ((k : ℕ) → get_or words k 0 < 2 ^ 32) → i < length words → word_at (flat_map word_bytes words) (4 * i) ≡ get_or words i 0
unfolding word_bytes
words_spelled [] i fits l = absurd (omega arith)
words_spelled (w ∷ words) zero fits l = from_le_bytes-to_le_bytes_4 w (fits 0)
words_spelled (w ∷ words) (suc i) fits l = word_at-shift _ _ _ _ (flat_map word_bytes words) i ∙ words_spelled words i (λ k. fits (suc k)) (omega arith)

-- bytes with these words are what spells them
pub words_spell : (words bytes : List ℕ) → length bytes ≡ 4 * length words → ((k : ℕ) → get_or bytes k 0 < 256) → ((i : ℕ) → i < length words → word_at bytes (4 * i) ≡ get_or words i 0) → bytes ≡ flat_map word_bytes words
unfolding word_bytes
words_spell [] [] l fits same = refl
words_spell [] (a ∷ bytes) l fits same = absurd (omega arith)
words_spell (w ∷ words) (a ∷ b ∷ c ∷ d ∷ bytes) l fits same =
    let rest : bytes ≡ flat_map word_bytes words =
    words_spell words bytes (omega arith) (λ k. fits (suc (suc (suc (suc k))))) (λ i lt. sym (word_at-shift a b c d bytes i) ∙ same (suc i) (omega arith)) in
    let first : to_le_bytes w32 w ≡ a ∷ b ∷ c ∷ d ∷ [] = le_bytes_4 (a ∷ b ∷ c ∷ d ∷ []) w refl (four_below a b c d bytes fits) (sym (same 0 (omega arith))) in
    ap (λ (x : List ℕ). a ∷ b ∷ c ∷ d ∷ x) rest ∙ ap (λ (x : List ℕ). x ++ flat_map word_bytes words) (sym first)
words_spell (w ∷ words) bytes l fits same = absurd (omega arith)
