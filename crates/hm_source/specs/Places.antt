-- Which addresses a line takes.
use Rattle.std.specs.Prelude.{◌≡◌, ◌≤◌, ◌⊎◌, ℕ, ◌+◌, ◌-◌, ◌*◌, ◌%◌, ◌∷◌, length}
use Rattle.hm_base.specs.Image.{flash_size, sram_start, sram_size}
use Rattle.hm_source.specs.Directives.{Directed, org, align, space, values, bytes_each}
use Rattle.hm_source.specs.Statements.{Said, nothing, instruction, directive}

-- how many bytes there are from an address up to a multiple of n
abbrev pub padding : ℕ → ℕ → ℕ
padding n a = (n - a % n) % n

-- how many bytes a directive gives that stands at an address
abbrev pub size_asked : Directed → ℕ → ℕ
size_asked (org b) a = 0
size_asked (align n) a = padding n a
size_asked (space n) a = n
size_asked (values s d ds) a = bytes_each s * length (d ∷ ds)

-- how many bytes a line gives that says this and stands at an address; none where it says nothing
abbrev pub size_of : Said → ℕ → ℕ
size_of nothing a = 0
size_of (instruction n) a = n
size_of (directive asked) a = size_asked asked a

-- where the next line stands
abbrev pub next_place : Said → ℕ → ℕ
next_place (directive (org b)) a = b
next_place said a = a + size_of said a

-- so many bytes from an address on lie whole in flash or whole in SRAM, or there are none
abbrev pub HasRoom : ℕ → ℕ → Type 0
HasRoom a n = (n ≡ 0) ⊎ (a + n ≤ flash_size) ⊎ ((sram_start ≤ a) × (a + n ≤ sram_start + sram_size))

-- `.org` does not go back, an instruction stands at an even address, and the bytes have room
abbrev pub HasPlace : Said → ℕ → Type 0
HasPlace (directive (org b)) a = a ≤ b
HasPlace (instruction n) a = (a % 2 ≡ 0) × HasRoom a n
HasPlace said a = HasRoom a (size_of said a)
