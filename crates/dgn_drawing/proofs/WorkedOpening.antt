-- Worked files, and what each comes to.
use Rattle.std.proofs.Common.{◌≡◌, ℕ, List, [], ◌∷◌, ◌++◌, refl, replicate, take, drop}
use Rattle.std.specs.declared.result.Result.{Result}
use Rattle.std.specs.declared.result.Result.TheVariants.{Ok, Err}
use Rattle.dgn_drawing.specs.Forms.{form_of}
use Rattle.dgn_drawing.specs.Opening.{Fault, NotDesign, Cut, Short, Attr, ending_within, ending_of}
use Rattle.dgn_drawing.proofs.WorkedElements.{line_bytes, line_with_attributes, chain_of_three, space_chain_bytes}

-- the TCB of worked drawings, and one whose byte 1214 says 3D
abbrev tcb : List ℕ
tcb = 0x08 ∷ 0x09 ∷ 0xFE ∷ 0x02 ∷ replicate 1532 0

abbrev space_tcb : List ℕ
space_tcb = 0x08 ∷ 0x09 ∷ 0xFE ∷ 0x02 ∷ (replicate 1210 0 ++ (0x40 ∷ replicate 321 0))

abbrev end_at_byte : ℕ → Result ℕ Fault
end_at_byte p = Ok p

abbrev faulty : Fault → Result ℕ Fault
faulty x = Err x

ending-nothing : ending_of [] ≡ faulty NotDesign
ending-nothing = refl

ending-three_bytes : ending_of (0x08 ∷ 0x09 ∷ 0xFE ∷ []) ≡ faulty NotDesign
ending-three_bytes = refl

ending-cell_library : ending_of (0x08 ∷ 0x05 ∷ 0x17 ∷ 0x00 ∷ []) ≡ faulty NotDesign
ending-cell_library = refl

ending-half_tcb : ending_of (take 1000 tcb) ≡ faulty (Cut 0)
unfolding ending_within
ending-half_tcb = refl

ending-tcb : ending_of tcb ≡ end_at_byte 1536
unfolding ending_within form_of
ending-tcb = refl

ending-line : ending_of (tcb ++ (line_bytes ++ (0xFF ∷ 0xFF ∷ []))) ≡ end_at_byte 1588
unfolding ending_within form_of
ending-line = refl

ending-cut_line : ending_of (tcb ++ take 51 line_bytes) ≡ faulty (Cut 1536)
unfolding ending_within form_of
ending-cut_line = refl

ending-short_chain : ending_of (tcb ++ chain_of_three) ≡ faulty (Short 1536)
unfolding ending_within form_of
ending-short_chain = refl

ending-misplaced : ending_of (tcb ++ line_with_attributes) ≡ faulty (Attr 1536)
unfolding ending_within form_of
ending-misplaced = refl

-- a chain in space that is cut by its count
ending-space_chain : ending_of (space_tcb ++ space_chain_bytes) ≡ end_at_byte 1598
unfolding ending_within form_of
ending-space_chain = refl

ending-short_space_chain : ending_of (space_tcb ++ (take 36 space_chain_bytes ++ (3 ∷ drop 37 space_chain_bytes))) ≡ faulty (Short 1536)
unfolding ending_within form_of
ending-short_space_chain = refl

-- a lone FF behind the elements is no tail
ending-lone_mark : ending_of (tcb ++ (0xFF ∷ [])) ≡ faulty (Cut 1536)
unfolding ending_within form_of
ending-lone_mark = refl
