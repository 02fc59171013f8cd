-- What fills the last block of a file. A file of whole blocks of 512 bytes that has a tail is written as one.
use Rattle.std.specs.Prelude.{ℕ, ◌+◌, ◌-◌, ◌%◌, ◌==◌, ◌&&◌, not, Bool, if◌then◌else◌, List, [], ◌++◌, length, replicate}

-- whether a file is one, whose elements have so many bytes
abbrev pub is_blocks : ℕ → List ℕ → Bool
is_blocks bytes tail = (bytes + length tail) % 512 == 0 && not (length tail == 0)

-- how many zero bytes fill the last block of so many bytes, the fewest
abbrev pub left_in_block : ℕ → ℕ
left_in_block bytes = (512 - bytes % 512) % 512

-- the zero bytes that stand behind the tail where the elements of the file had so many bytes, and have so many now
abbrev pub filling : ℕ → List ℕ → ℕ → List ℕ
filling before tail now = if is_blocks before tail then replicate (left_in_block (now + length tail)) 0 else []

-- the file that is written, where the elements of the file that was read had so many bytes, and have these now
abbrev pub file_made : ℕ → List ℕ → List ℕ → List ℕ
file_made before tail body = body ++ (tail ++ filling before tail (length body))
