-- Every stream of bytes is requests and a rest.
use Rattle.std.proofs.Common.{◌≡◌, ◌<◌, ◌≤◌, ◌+◌, ◌^◌, ◌==◌, ◌&&◌, nat_le, ℕ, Bool, List, [], ◌∷◌, ◌++◌, length, take, drop, get_or, refl, zero, suc}
use Rattle.std.proofs.Common.{sym, ap, ◌∙◌, subst, arith, rules, inl, inr, append_assoc, length-drop, length-take-le, take-append-drop, get_or-drop}
use Rattle.std.proofs.Common.{true, false, slice_index}
use Rattle.std.proofs.lemmas.Bool.{cases_lt}
use Rattle.std.specs.Int.{from_le_bytes, to_le_bytes, w32}
use Rattle.std.proofs.lemmas.Nat.{le_bytes_4}
use Rattle.std.specs.List.{flat_map}
use Rattle.promises.specs.Stream.{Request, IsRequest, is_header, header_bytes, request_bytes, body_length, op_code, IsRest, IsBytes, SplitsSomehow, SomeWayLaw}
use Rattle.promises.specs.declared.stream.Op.{Op}
use Rattle.promises.specs.declared.stream.End.{End}
use Rattle.promises.specs.declared.stream.End.TheVariants.{Boundary, Unfinished, BadFrame}
use Rattle.promises.proofs.StreamOnce.{op_at}

op_found : (n : ℕ) → 1 ≤ n → n ≤ 5 → op_code (op_at n) ≡ n
op_found zero low high = absurd (omega arith)
op_found (suc zero) low high = refl
op_found (suc (suc zero)) low high = refl
op_found (suc (suc (suc zero))) low high = refl
op_found (suc (suc (suc (suc zero)))) low high = refl
op_found (suc (suc (suc (suc (suc zero))))) low high = refl
op_found (suc (suc (suc (suc (suc (suc n)))))) low high = absurd (omega arith)

four_small : (a b c d : ℕ) → a < 256 → b < 256 → c < 256 → d < 256 → (i : ℕ) → get_or (a ∷ b ∷ c ∷ d ∷ []) i 0 < 256
four_small a b c d pa pb pc pd zero = pa
four_small a b c d pa pb pc pd (suc zero) = pb
four_small a b c d pa pb pc pd (suc (suc zero)) = pc
four_small a b c d pa pb pc pd (suc (suc (suc zero))) = pd
four_small a b c d pa pb pc pd (suc (suc (suc (suc i)))) = omega arith

good_parts : (a b o z : ℕ) → (a == 68 && b == 70 && nat_le 1 o && nat_le o 5 && z == 0) ≡ true
    → (a ≡ 68) × (b ≡ 70) × (1 ≤ o) × (o ≤ 5) × (z ≡ 0)
good_parts a b o z e = search rules

twelve : (xs : List ℕ) → 12 ≤ length xs → xs ≡ slice_index xs 0 ∷ slice_index xs 1 ∷ slice_index xs 2 ∷ slice_index xs 3 ∷ slice_index xs 4 ∷ slice_index xs 5
    ∷ slice_index xs 6 ∷ slice_index xs 7 ∷ slice_index xs 8 ∷ slice_index xs 9 ∷ slice_index xs 10 ∷ slice_index xs 11 ∷ drop 12 xs
twelve (a ∷ b ∷ c ∷ d ∷ e ∷ f ∷ g ∷ h ∷ i ∷ j ∷ k ∷ l ∷ xs) long = refl
twelve _ long = absurd (omega arith)

-- twelve bytes that are a header
record Header (xs : List ℕ) : Type 0 where
  op : Op
  tag : ℕ
  sector : ℕ
  tag_fits : tag < 2 ^ 32
  sector_fits : sector < 2 ^ 32
  spelled : xs ≡ (68 ∷ 70 ∷ op_code op ∷ 0 ∷ (to_le_bytes w32 tag ++ to_le_bytes w32 sector)) ++ drop 12 xs

header_found : (xs : List ℕ) → 12 ≤ length xs → IsBytes xs → is_header (take 12 xs) ≡ true → Header xs
header_found xs long bytes good =
    let cells = twelve xs long in
    let at : ℕ → ℕ = slice_index xs in
    let front = ap is_header (ap (take 12) cells) in
    let parts = good_parts (at 0) (at 1) (at 2) (at 3) (sym front ∙ good) in
    let code = op_found (at 2) parts.2 parts.3 in
    let t4 : List ℕ = at 4 ∷ at 5 ∷ at 6 ∷ at 7 ∷ [] in
    let s4 : List ℕ = at 8 ∷ at 9 ∷ at 10 ∷ at 11 ∷ [] in
    let tag_is : ℕ = from_le_bytes w32 t4 in
    let sector_is : ℕ = from_le_bytes w32 s4 in
    let tags = le_bytes_4 t4 tag_is refl (four_small _ _ _ _ (bytes 4) (bytes 5) (bytes 6) (bytes 7)) refl in
    let sectors = le_bytes_4 s4 sector_is refl (four_small _ _ _ _ (bytes 8) (bytes 9) (bytes 10) (bytes 11)) refl in
    let spell : ℕ → ℕ → ℕ → ℕ → List ℕ → List ℕ → List ℕ = λ a b o z t s. a ∷ b ∷ o ∷ z ∷ ((t ++ s) ++ drop 12 xs) in
    record {
      op = op_at (at 2);
      tag = tag_is;
      sector = sector_is;
      tag_fits = omega (arith, bytes 4, bytes 5, bytes 6, bytes 7);
      sector_fits = omega (arith, bytes 8, bytes 9, bytes 10, bytes 11);
      spelled = cells
          ∙ ap (λ (a : ℕ). spell a (at 1) (at 2) (at 3) t4 s4) parts.0
          ∙ ap (λ (b : ℕ). spell 68 b (at 2) (at 3) t4 s4) parts.1
          ∙ ap (λ (o : ℕ). spell 68 70 o (at 3) t4 s4) (sym code)
          ∙ ap (λ (z : ℕ). spell 68 70 (op_code (op_at (at 2))) z t4 s4) parts.4
          ∙ ap (λ (t : List ℕ). spell 68 70 (op_code (op_at (at 2))) 0 t s4) (sym tags)
          ∙ ap (λ (s : List ℕ). spell 68 70 (op_code (op_at (at 2))) 0 (to_le_bytes w32 tag_is) s) (sym sectors);
    }

-- nothing but a rest
just_rest : (data_bytes : ℕ) (end : End) (xs : List ℕ) → IsRest data_bytes end xs → SplitsSomehow data_bytes xs
just_rest data_bytes end xs is = record { requests = []; end = end; rest = xs; splits = record { whole = refl; each = tt; ends = is } }

short_rest : (data_bytes : ℕ) (xs : List ℕ) → length xs < 12 → SplitsSomehow data_bytes xs
short_rest data_bytes [] h = just_rest data_bytes Boundary [] refl
short_rest data_bytes (c ∷ cs) h = just_rest data_bytes Unfinished (c ∷ cs) (omega arith, inl h)

module _ (n data_bytes : ℕ) (more : (ys : List ℕ) → length ys ≤ n → IsBytes ys → SplitsSomehow data_bytes ys) where
  with_header : (xs : List ℕ) → 12 ≤ length xs → length xs ≤ suc n → IsBytes xs → Header xs → SplitsSomehow data_bytes xs
  with_header xs long bound bytes h =
      let rest = drop 12 xs in
      let k = body_length data_bytes h.op in
      elim (cases_lt (length rest) k) [
        | inl short ↦
            let begun : Request = record { op = h.op; tag = h.tag; sector = h.sector; body = rest } in
            just_rest data_bytes Unfinished xs (omega arith, inr (begun, short, h.spelled))
        | inr whole ↦
            let r : Request = record { op = h.op; tag = h.tag; sector = h.sector; body = take k rest } in
            let left = drop k rest in
            let least : length left ≤ n = omega (arith, length-drop k rest, length-drop 12 xs) in
            let small : IsBytes left = λ i. subst (λ (m : ℕ). m < 256) (sym (get_or-drop k rest i 0 ∙ get_or-drop 12 xs (k + i) 0)) (bytes (12 + (k + i))) in
            let later = more left least small in
            let split : rest ≡ take k rest ++ left = sym (take-append-drop k rest) in
            let fits : IsRequest data_bytes r = record { body = length-take-le k rest whole; tag = h.tag_fits; sector = h.sector_fits } in
            record {
              requests = r ∷ later.requests;
              end = later.end;
              rest = later.rest;
              splits = record {
                whole = h.spelled ∙ ap (λ (l : List ℕ). header_bytes r ++ l) (split ∙ ap (λ (l : List ℕ). take k rest ++ l) later.splits.whole)
                    ∙ sym (append_assoc (header_bytes r) (take k rest) (flat_map request_bytes later.requests ++ later.rest))
                    ∙ sym (append_assoc (request_bytes r) (flat_map request_bytes later.requests) later.rest);
                each = (fits, later.splits.each);
                ends = later.splits.ends;
              };
            }
      ]

  by_header : (b : Bool) (xs : List ℕ) → is_header (take 12 xs) ≡ b → 12 ≤ length xs → length xs ≤ suc n → IsBytes xs → SplitsSomehow data_bytes xs
  by_header false xs bad long bound bytes = just_rest data_bytes BadFrame xs (long, bad)
  by_header true xs good long bound bytes = with_header xs long bound bytes (header_found xs long bytes good)

of_length : (n data_bytes : ℕ) (xs : List ℕ) → length xs ≤ n → IsBytes xs → SplitsSomehow data_bytes xs
of_length zero data_bytes xs bound bytes = short_rest data_bytes xs (omega arith)
of_length (suc n) data_bytes xs bound bytes =
    elim (cases_lt (length xs) 12) [
      | inl short ↦ short_rest data_bytes xs short
      | inr long ↦ by_header n data_bytes (of_length n data_bytes) (is_header (take 12 xs)) xs refl long bound bytes
    ]

pub some_way : SomeWayLaw
some_way data_bytes xs bytes = of_length (length xs) data_bytes xs (omega arith) bytes
