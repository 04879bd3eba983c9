-- Document 01, "The preview program": the sheet, in its order: depth 4 bits, trimming flag 1, count 11; then f32 smoothing, f32 offset, f32 distance only if
-- flagged, iterations 16 bits, f64 tolerance, points. Definitions only; assumes nothing.
use Rattle.std.specs.Prelude.{Bool, cond, not, ◌||◌, ◌&&◌, List, ℕ, ◌+◌, ◌*◌, ◌/◌, ◌%◌, ltb, leb, eqb, length, get_or, Float, Result, Ok, Err, codes}
use Rattle.std.specs.Float.Ieee.{of_bits}
use Rattle.std.specs.Float.{binary32, binary64}
use Rattle.settings.specs.declared.Trimming.{Trimming}
use Rattle.settings.specs.declared.Trimming.TheVariants.{Off, Within}
use Rattle.points.specs.Points.{numbers_per_point}
use Rattle.sheet.specs.declared.Header.{Header}
use Rattle.sheet.specs.declared.SheetError.{SheetError}
use Rattle.sheet.specs.declared.SheetError.TheVariants.{Wrong, Deep}

-- ---- two, four and eight bytes from i on, most significant first

unfoldable pub be16 : (s : List ℕ) (i : ℕ) → ℕ
be16 s i = get_or s i 0 * 256 + get_or s (i + 1) 0

unfoldable pub be32 : (s : List ℕ) (i : ℕ) → ℕ
be32 s i = be16 s i * 65536 + be16 s (i + 2)

unfoldable pub be64 : (s : List ℕ) (i : ℕ) → ℕ
be64 s i = be32 s i * 4294967296 + be32 s (i + 4)

-- the floats of these patterns; a NaN pattern is the one NaN
abbrev pub f32_at : (s : List ℕ) (i : ℕ) → Float
f32_at s i = of_bits binary32 (be32 s i)

abbrev pub f64_at : (s : List ℕ) (i : ℕ) → Float
f64_at s i = of_bits binary64 (be64 s i)

-- ---- the first 16 bits: depth 4, trimming flag 1, count 11

abbrev pub depth_of : (word : ℕ) → ℕ
depth_of word = word / 4096

abbrev pub flag_of : (word : ℕ) → ℕ
flag_of word = word / 2048 % 2

abbrev pub count_of : (word : ℕ) → ℕ
count_of word = word % 2048

-- ---- the header: 2 bytes, smoothing 4, offset 4, distance 4 if flagged, iterations 2, tolerance 8

abbrev pub trimming_of : (s : List ℕ) (word : ℕ) → Trimming
trimming_of s word = cond (eqb (flag_of word) 0) Off (Within (f32_at s 10))

-- where the points start
abbrev pub start_of : (word : ℕ) → ℕ
start_of word = 20 + 4 * flag_of word

abbrev pub header_of : (s : List ℕ) (word : ℕ) → Header
header_of s word =
    record {
      settings = record {
        depth = depth_of word;
        smoothing = f32_at s 2;
        iso_offset = f32_at s 6;
        trimming = trimming_of s word;
        max_iterations = be16 s (10 + 4 * flag_of word);
        tolerance = f64_at s (12 + 4 * flag_of word);
      };
      count = count_of word;
      start = start_of word;
    }

-- ---- the points

-- how many bytes of points there are
abbrev pub point_bytes : (word : ℕ) → ℕ
point_bytes word = 4 * numbers_per_point * count_of word

-- number i of those that start at a place
abbrev pub float_at : (s : List ℕ) (start i : ℕ) → Float
float_at s start i = f32_at s (start + 4 * i)

-- ---- the whole

-- short or overlong, or a count over 256
unfoldable pub is_wrong : (s : List ℕ) → Bool
is_wrong s =
    ltb (length s) 2
    || (ltb 256 (count_of (be16 s 0)) || not (eqb (length s) (start_of (be16 s 0) + point_bytes (be16 s 0))))

-- a depth 4 to 8, after that check
unfoldable pub sheet_of : (s : List ℕ) → Result Header SheetError
sheet_of s =
    cond (is_wrong s) (Err Wrong)
    (cond (leb 4 (depth_of (be16 s 0)) && leb (depth_of (be16 s 0)) 8) (Err Deep) (Ok (header_of s (be16 s 0))))

-- what the preview says of a sheet that it does not go on with
abbrev pub said_of : SheetError → List ℕ
said_of Wrong = codes "sheet"
said_of Deep = codes "preview only"
