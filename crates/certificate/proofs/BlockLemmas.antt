-- The states of blocks are read as they are spelled.
use Rattle.std.proofs.Common.{◌≡◌, ℕ, zero, suc, ◌*◌, ◌<◌, ◌≤◌, length, get_or, take, drop, List, [], ◌∷◌, ◌++◌, refl, sym, ap, ◌∙◌, arith}
use Rattle.std.specs.List.{flat_map, AllByRecursion}
use Rattle.std.specs.Int.{w16, w32, from_le_bytes, to_le_bytes}
use Rattle.std.proofs.lemmas.Nat.{le_bytes_2, le_bytes_4, from_le_bytes-to_le_bytes_2, from_le_bytes-to_le_bytes_4}
use Rattle.std.proofs.lemmas.List.Concat.{flat_map-cons}
use Rattle.certificate.specs.declared.block_state.BlockState.{BlockState}
use Rattle.certificate.specs.Reading.{blocks_of}
use Rattle.certificate.specs.Spelling.{word, block, FitsBlock}
use Rattle.certificate.proofs.RowLemmas.{IsBytes}

same_state : (s : BlockState) (p l w : ℕ) → p ≡ s.pointer → l ≡ s.live → w ≡ s.wear → (let made : BlockState = record { class = s.class; pointer = p; live = l; wear = w } in made ≡ s)
same_state s p l w e f g = rw (e, f, g) refl

pub blocks_again : (states : List BlockState) → AllByRecursion FitsBlock states → blocks_of (flat_map block states) ≡ states
unfolding blocks_of word
blocks_again [] fits = refl
blocks_again (s ∷ states) fits =
    ap blocks_of (flat_map-cons block s states)
    ∙ (ap (λ (x : BlockState). x ∷ blocks_of (flat_map block states)) (same_state s _ _ _ (from_le_bytes-to_le_bytes_2 s.pointer fits.0.pointer) (from_le_bytes-to_le_bytes_2 s.live fits.0.live) (from_le_bytes-to_le_bytes_4 s.wear fits.0.wear))
    ∙ ap (λ (xs : List BlockState). s ∷ xs) (blocks_again states fits.1))

pub length-flat_map-block : (states : List BlockState) → length (flat_map block states) ≡ 9 * length states
unfolding word
length-flat_map-block [] = refl
length-flat_map-block (s ∷ states) = ap length (flat_map-cons block s states) ∙ omega (arith, length-flat_map-block states)

two_below : (a b : ℕ) → a < 256 → b < 256 → IsBytes (a ∷ b ∷ [])
two_below a b x y zero = x
two_below a b x y (suc zero) = y
two_below a b x y (suc (suc k)) = omega arith

four_below : (a b c d : ℕ) → a < 256 → b < 256 → c < 256 → d < 256 → IsBytes (a ∷ b ∷ c ∷ d ∷ [])
four_below a b c d x y z w zero = x
four_below a b c d x y z w (suc zero) = y
four_below a b c d x y z w (suc (suc zero)) = z
four_below a b c d x y z w (suc (suc (suc zero))) = w
four_below a b c d x y z w (suc (suc (suc (suc k)))) = omega arith

-- one state's bytes
nine : (c p q l m w x y z : ℕ) → IsBytes (c ∷ p ∷ q ∷ l ∷ m ∷ w ∷ x ∷ y ∷ z ∷ [])
    → block
    (record {
      class = c;
      pointer = from_le_bytes w16 (p ∷ q ∷ []);
      live = from_le_bytes w16 (l ∷ m ∷ []);
      wear = from_le_bytes w32
          (w ∷ x ∷ y ∷ z ∷ []);
    }) ≡ c ∷ p ∷ q ∷ l ∷ m ∷ w ∷ x ∷ y ∷ z ∷ []
unfolding word
nine c p q l m w x y z h =
    let pointer : to_le_bytes w16 (from_le_bytes w16 (p ∷ q ∷ [])) ≡ p ∷ q ∷ [] = le_bytes_2 (p ∷ q ∷ []) _ refl (two_below p q (h 1) (h 2)) refl in
    let live : to_le_bytes w16 (from_le_bytes w16 (l ∷ m ∷ [])) ≡ l ∷ m ∷ [] = le_bytes_2 (l ∷ m ∷ []) _ refl (two_below l m (h 3) (h 4)) refl in
    let wear : to_le_bytes w32 (from_le_bytes w32 (w ∷ x ∷ y ∷ z ∷ [])) ≡ w ∷ x ∷ y ∷ z ∷ [] = le_bytes_4 (w ∷ x ∷ y ∷ z ∷ []) _ refl (four_below w x y z (h 5) (h 6) (h 7) (h 8)) refl in
    ap (λ (bs : List ℕ). c ∷ bs ++ to_le_bytes w16 (from_le_bytes w16 (l ∷ m ∷ [])) ++ to_le_bytes w32 (from_le_bytes w32 (w ∷ x ∷ y ∷ z ∷ []))) pointer
    ∙ (ap (λ (bs : List ℕ). c ∷ p ∷ q ∷ bs ++ to_le_bytes w32 (from_le_bytes w32 (w ∷ x ∷ y ∷ z ∷ []))) live
    ∙ ap (λ (bs : List ℕ). c ∷ p ∷ q ∷ l ∷ m ∷ bs) wear)

nine_below : (c p q l m w x y z : ℕ) (rest : List ℕ) → IsBytes (c ∷ p ∷ q ∷ l ∷ m ∷ w ∷ x ∷ y ∷ z ∷ rest) → IsBytes (c ∷ p ∷ q ∷ l ∷ m ∷ w ∷ x ∷ y ∷ z ∷ [])
nine_below c p q l m w x y z rest h zero = h 0
nine_below c p q l m w x y z rest h (suc zero) = h 1
nine_below c p q l m w x y z rest h (suc (suc zero)) = h 2
nine_below c p q l m w x y z rest h (suc (suc (suc zero))) = h 3
nine_below c p q l m w x y z rest h (suc (suc (suc (suc zero)))) = h 4
nine_below c p q l m w x y z rest h (suc (suc (suc (suc (suc zero))))) = h 5
nine_below c p q l m w x y z rest h (suc (suc (suc (suc (suc (suc zero)))))) = h 6
nine_below c p q l m w x y z rest h (suc (suc (suc (suc (suc (suc (suc zero))))))) = h 7
nine_below c p q l m w x y z rest h (suc (suc (suc (suc (suc (suc (suc (suc zero)))))))) = h 8
nine_below c p q l m w x y z rest h (suc (suc (suc (suc (suc (suc (suc (suc (suc k))))))))) = omega arith

past_nine : (c p q l m w x y z : ℕ) (rest : List ℕ) → IsBytes (c ∷ p ∷ q ∷ l ∷ m ∷ w ∷ x ∷ y ∷ z ∷ rest) → IsBytes rest
past_nine c p q l m w x y z rest h k = h (suc (suc (suc (suc (suc (suc (suc (suc (suc k)))))))))

pub blocks_spell : (n : ℕ) (bytes : List ℕ) → length bytes ≡ 9 * n → IsBytes bytes → flat_map block (blocks_of bytes) ≡ bytes
unfolding blocks_of
blocks_spell zero [] l h = refl
blocks_spell zero (a ∷ bytes) l h = absurd (omega arith)
blocks_spell (suc n) (c ∷ p ∷ q ∷ u ∷ m ∷ w ∷ x ∷ y ∷ z ∷ rest) l h =
    let s : BlockState = record { class = c; pointer = from_le_bytes w16 (p ∷ q ∷ []); live = from_le_bytes w16 (u ∷ m ∷ []); wear = from_le_bytes w32 (w ∷ x ∷ y ∷ z ∷ []) } in
    flat_map-cons block s (blocks_of rest)
    ∙ (ap (λ (bs : List ℕ). bs ++ flat_map block (blocks_of rest)) (nine c p q u m w x y z (nine_below c p q u m w x y z rest h))
    ∙ ap (λ (bs : List ℕ). c ∷ p ∷ q ∷ u ∷ m ∷ w ∷ x ∷ y ∷ z ∷ bs) (blocks_spell n rest (omega arith) (past_nine c p q u m w x y z rest h)))
blocks_spell (suc n) bytes l h = absurd (omega arith)

pub length-blocks_of : (n : ℕ) (bytes : List ℕ) → length bytes ≡ 9 * n → length (blocks_of bytes) ≡ n
unfolding blocks_of
length-blocks_of zero [] l = refl
length-blocks_of zero (a ∷ bytes) l = absurd (omega arith)
length-blocks_of (suc n) (c ∷ p ∷ q ∷ u ∷ m ∷ w ∷ x ∷ y ∷ z ∷ rest) l = ap suc (length-blocks_of n rest (omega arith))
length-blocks_of (suc n) bytes l = absurd (omega arith)

-- what is read is as small as its bytes, but for the class
pub blocks_fit : (bytes : List ℕ) → IsBytes bytes → AllByRecursion (λ (s : BlockState). s.class ≤ 5) (blocks_of bytes) → AllByRecursion FitsBlock (blocks_of bytes)
unfolding blocks_of
blocks_fit (c ∷ p ∷ q ∷ l ∷ m ∷ w ∷ x ∷ y ∷ z ∷ rest) h classes = (
  record {
    class = classes.0;
    pointer = omega (arith, h 1, h 2);
    live = omega (arith, h 3, h 4);
    wear = omega (arith, h 5, h 6, h 7, h 8);
  },
  blocks_fit rest (past_nine c p q l m w x y z rest h) classes.1,
)
blocks_fit bytes h classes = tt

-- ---- reading them one by one

pub blocks_end : (bytes : List ℕ) → length bytes < 9 → blocks_of bytes ≡ []
unfolding blocks_of
blocks_end (c ∷ p ∷ q ∷ l ∷ m ∷ w ∷ x ∷ y ∷ z ∷ rest) l' = absurd (omega arith)
blocks_end bytes l' = refl

pub block_read : (b : List ℕ) → length b ≡ 9 →
    (let state : BlockState =
    record {
      class = get_or b 0 0;
      pointer = from_le_bytes w16 (get_or b 1 0 ∷ get_or b 2 0 ∷ []);
      live = from_le_bytes w16
          (get_or b 3 0 ∷ get_or b 4 0 ∷ []);
      wear = from_le_bytes w32 (get_or b 5 0 ∷ get_or b 6 0 ∷ get_or b 7 0 ∷ get_or b 8 0 ∷ []);
    } in
    blocks_of b ≡ state ∷ [])
unfolding blocks_of
block_read (c ∷ p ∷ q ∷ l ∷ m ∷ w ∷ x ∷ y ∷ z ∷ []) long = refl
block_read b long = absurd (omega arith)

same_first : (s t : BlockState) (rest : List BlockState) → s ∷ [] ≡ t ∷ [] → s ∷ rest ≡ t ∷ rest
same_first s t rest e = cc

pub blocks_more : (bytes front after : List ℕ) (s : BlockState) → 9 ≤ length bytes → front ≡ take 9 bytes → after ≡ drop 9 bytes → blocks_of front ≡ s ∷ [] → blocks_of bytes ≡ s ∷ blocks_of after
unfolding blocks_of
blocks_more (c ∷ p ∷ q ∷ l ∷ m ∷ w ∷ x ∷ y ∷ z ∷ rest) front after s long e f g = rw f (same_first _ s (blocks_of rest) (sym (ap blocks_of e) ∙ g))
blocks_more bytes front after s long e f g = absurd (omega arith)
