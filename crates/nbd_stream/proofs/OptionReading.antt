-- An option's header that was read, and then its data.
use Rattle.std.proofs.Common.{◌≡◌, ◌<◌, ◌^◌, ℕ, List, [], ◌∷◌, ◌++◌, Option, Result, Ok, Err, length, get_or, sym, subst, ap, ◌∙◌, arith, inr}
use Rattle.std.proofs.Common.{length-append}
use Rattle.std.specs.Prelude.{slice_index, slice_range}
use Rattle.std.specs.Int.{to_be_bytes, w32}
use Rattle.std.specs.Io.KnownBytes.{Consumes}
use Rattle.std.proofs.KnownBytes.{Consumes-trans}
use Rattle.byteorder.specs.Endian.{big_number}
use Rattle.request_stream.specs.declared.reply.ServeFault.{ServeFault}
use Rattle.nbd_stream.specs.Options.{IsOption, IsCutOption, IsData, SpellsOption, OptionRests, ReadsOptionRest, ReadsOption, asked_option, option_header_bytes, option_bytes}
use Rattle.nbd_stream.specs.declared.option.OptionHeader.{OptionHeader}
use Rattle.nbd_stream.specs.declared.option.NextOption.{NextOption}
use Rattle.nbd_stream.specs.declared.option.NextOption.TheVariants as next
use Rattle.nbd_stream.specs.declared.request.StreamEnd.{StreamEnd}
use Rattle.nbd_stream.specs.declared.request.StreamEnd.TheVariants.{Unfinished}
use Rattle.nbd_stream.proofs.Parsing.{cells_4}

-- "IHAVEOPT"
pub record Magic (xs : List ℕ) : Type 0 where
  pub m0 : slice_index xs 0 ≡ 73
  pub m1 : slice_index xs 1 ≡ 72
  pub m2 : slice_index xs 2 ≡ 65
  pub m3 : slice_index xs 3 ≡ 86
  pub m4 : slice_index xs 4 ≡ 69
  pub m5 : slice_index xs 5 ≡ 79
  pub m6 : slice_index xs 6 ≡ 80
  pub m7 : slice_index xs 7 ≡ 84

pub option_spelled : (xs : List ℕ) (h : OptionHeader) → length xs ≡ 16 → ((i : ℕ) → get_or xs i 0 < 256) → Magic xs → h.code ≡ big_number 4 (slice_range xs 8 12) → h.count ≡ big_number 4 (slice_range xs 12 16) → SpellsOption xs h
option_spelled (x0 ∷ x1 ∷ x2 ∷ x3 ∷ x4 ∷ x5 ∷ x6 ∷ x7 ∷ x8 ∷ x9 ∷ x10 ∷ x11 ∷ x12 ∷ x13 ∷ x14 ∷ x15 ∷ []) h long small magic code_is count_is =
    let code = cells_4 x8 x9 x10 x11 h.code (small 8) (small 9) (small 10) (small 11) code_is in
    let count = cells_4 x12 x13 x14 x15 h.count (small 12) (small 13) (small 14) (small 15) count_is in
    let c4 : List ℕ = x8 ∷ x9 ∷ x10 ∷ x11 ∷ [] in
    let n4 : List ℕ = x12 ∷ x13 ∷ x14 ∷ x15 ∷ [] in
    record {
      whole = ap (λ (a : ℕ). a ∷ x1 ∷ x2 ∷ x3 ∷ x4 ∷ x5 ∷ x6 ∷ x7 ∷ (c4 ++ n4)) magic.m0
          ∙ ap (λ (a : ℕ). 73 ∷ a ∷ x2 ∷ x3 ∷ x4 ∷ x5 ∷ x6 ∷ x7 ∷ (c4 ++ n4)) magic.m1
          ∙ ap (λ (a : ℕ). 73 ∷ 72 ∷ a ∷ x3 ∷ x4 ∷ x5 ∷ x6 ∷ x7 ∷ (c4 ++ n4)) magic.m2
          ∙ ap (λ (a : ℕ). 73 ∷ 72 ∷ 65 ∷ a ∷ x4 ∷ x5 ∷ x6 ∷ x7 ∷ (c4 ++ n4)) magic.m3
          ∙ ap (λ (a : ℕ). 73 ∷ 72 ∷ 65 ∷ 86 ∷ a ∷ x5 ∷ x6 ∷ x7 ∷ (c4 ++ n4)) magic.m4
          ∙ ap (λ (a : ℕ). 73 ∷ 72 ∷ 65 ∷ 86 ∷ 69 ∷ a ∷ x6 ∷ x7 ∷ (c4 ++ n4)) magic.m5
          ∙ ap (λ (a : ℕ). 73 ∷ 72 ∷ 65 ∷ 86 ∷ 69 ∷ 79 ∷ a ∷ x7 ∷ (c4 ++ n4)) magic.m6
          ∙ ap (λ (a : ℕ). 73 ∷ 72 ∷ 65 ∷ 86 ∷ 69 ∷ 79 ∷ 80 ∷ a ∷ (c4 ++ n4)) magic.m7
          ∙ ap (λ (c : List ℕ). 73 ∷ 72 ∷ 65 ∷ 86 ∷ 69 ∷ 79 ∷ 80 ∷ 84 ∷ (c ++ n4)) (sym code)
          ∙ ap (λ (n : List ℕ). 73 ∷ 72 ∷ 65 ∷ 86 ∷ 69 ∷ 79 ∷ 80 ∷ 84 ∷ (to_be_bytes w32 h.code ++ n)) (sym count);
      code = omega (arith, code_is, small 8, small 9, small 10, small 11);
      count = omega (arith, count_is, small 12, small 13, small 14, small 15);
    }
option_spelled _ h long small magic code_is count_is = absurd (omega arith)

-- the header's bytes, and then what was read of the data
pub after_option : (h : OptionHeader) (u m v : Option (List ℕ)) (buffer bytes : List ℕ) (r : Result NextOption ServeFault)
    → length bytes ≡ 16 → SpellsOption bytes h → Consumes u m bytes → ReadsOptionRest h m v buffer r → ReadsOption u v buffer r
after_option h u m v buffer bytes (Ok (next.Whole k)) long spells first (same, (body, size, more, kept)) =
    let head : bytes ≡ option_header_bytes h.code (length body) = spells.whole ∙ ap (option_header_bytes h.code) (sym size) in
    let whole : Consumes u v (option_bytes (asked_option h.code body)) = subst (λ (l : List ℕ). Consumes u v (l ++ body)) head (Consumes-trans u m v bytes body first more) in
    let is : IsOption (asked_option h.code body) = record { code = spells.code; count = subst (λ n. n < 2 ^ 32) (sym size) spells.count } in
    let stands : IsData h buffer body = record { long = size; stands = kept } in
    subst (λ (x : OptionHeader). ReadsOption u v buffer (Ok (next.Whole x))) (sym same) (body, stands, is, whole)
after_option h u m v buffer bytes (Ok (next.Ended e)) long spells first (is, (part, short, more, ended)) =
    let some : 0 < length (bytes ++ part) = omega (arith, length-append bytes part) in
    let cut : IsCutOption h.code h.count part (bytes ++ part) = record { code_fits = spells.code; count_fits = spells.count; short = short; whole = ap (λ l. l ++ part) spells.whole } in
    let rests : OptionRests Unfinished (bytes ++ part) v = (some, inr (h.code, h.count, part, cut), ended) in
    subst (λ (x : StreamEnd). ReadsOption u v buffer (Ok (next.Ended x))) (sym is) (bytes ++ part, rests, Consumes-trans u m v bytes part first more)
after_option h u m v buffer bytes (Err e) long spells first (is, part, short, more) =
    let cut : IsCutOption h.code h.count part (bytes ++ part) = record { code_fits = spells.code; count_fits = spells.count; short = short; whole = ap (λ l. l ++ part) spells.whole } in
    (is, bytes ++ part, inr (h.code, h.count, part, cut), Consumes-trans u m v bytes part first more)
