-- The geometries that fit a dump, as it stands or put right, and their order.
use Rattle.std.specs.Prelude.{ℕ, ◌%◌, ◌==◌, ◌&&◌, nat_le, if◌then◌else◌, Bool, true, false, List, [], ◌++◌, All, length, map}
use Rattle.std.specs.List.{flat_map, range_with_len}
use Rattle.std.specs.declared.cmp.Ordering.{Ordering}
use Rattle.std.specs.Ordering.{bool_cmp, ordering_then}
use Rattle.page_code.specs.Layout.{outer_size}
use Rattle.lab_dump.specs.declared.fit.Fit.{Fit}
use Rattle.lab_dump.specs.Shape.{data_sizes}
use Rattle.lab_dump.specs.Fits.{area_fits, fits_of, rank, IsPossible}
use Rattle.lab_correct.specs.declared.found.FoundFit.{FoundFit}
use Rattle.lab_correct.specs.Decoded.{decoded_bytes, raw_size}

-- whether a chip has room for the codes of pages of such areas, and so many bytes are whole pages with their codes
abbrev pub are_coded_pages : ℕ → ℕ → ℕ → Bool
are_coded_pages size data_bytes spare_bytes = nat_le (outer_size data_bytes spare_bytes) 256 && (size % raw_size data_bytes spare_bytes == 0)

-- those with codes and such areas without them: just those that fit the dump without its codes
unfoldable pub coded_area_fits : List ℕ → ℕ → ℕ → List Fit
coded_area_fits all data_bytes spare_bytes = if are_coded_pages (length all) data_bytes spare_bytes then area_fits (decoded_bytes data_bytes spare_bytes all) data_bytes spare_bytes else []

-- those with codes and a data area of so many bytes
unfoldable pub coded_data_fits : List ℕ → ℕ → List Fit
coded_data_fits all data_bytes = flat_map (coded_area_fits all data_bytes) (range_with_len 32 225)

-- all with codes
unfoldable pub coded_fits : List ℕ → List Fit
coded_fits all = flat_map (coded_data_fits all) data_sizes

-- one of either sort
abbrev pub found_as : Bool → Fit → FoundFit
found_as coded fit = record { fit = fit; coded = coded }

-- ALL GEOMETRIES THAT FIT, as the dump stands and with codes
unfoldable pub found_fits_of : List ℕ → List FoundFit
found_fits_of all = map (found_as false) (fits_of all) ++ map (found_as true) (coded_fits all)

-- which of two comes first: by what the dump says for them, and of two for which it says the same the one without codes
abbrev pub found_rank : FoundFit → FoundFit → Ordering
found_rank x y = ordering_then (rank x.fit y.fit) (bool_cmp x.coded y.coded)

-- whatever the dump gives
abbrev pub ArePossible : List FoundFit → Type 0
ArePossible found = All (λ f. IsPossible f.fit) found
