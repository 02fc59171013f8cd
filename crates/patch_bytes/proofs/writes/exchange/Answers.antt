use Rattle.std.proofs.Common.{ℕ, [], ◌∷◌, take, drop, sym, ap, ◌∙◌, arith, length-take}
use Rattle.patch_bytes.specs.Puts.{old_of}
use Rattle.patch_bytes.proofs.PutsLaid.{put_mid-lay, zeros_behind, old_bytes, four_named}
use Rattle.patch_bytes.proofs.writes.exchange.Goals as goal

-- behind the old bytes stand the zeros that were there first
pub returns-clause-rest : goal.returns-clause-rest
returns-clause-rest g c =
    zeros_behind c.copy_from_slice.new.self c.args.p.len g.row.LEN (omega (arith, length-take {A = ℕ}, c.copy_from_slice.ensures.len))
    (sym c.requires.same_length)

pub returns-clause-written : goal.returns-clause-written
returns-clause-written g c =
    put_mid-lay c.args.buf.now (take c.args.p.len c.args.p.bytes) c.copy_from_slice-2.new.self c.args.p.at _
    (c.copy_from_slice-2.ensures.after ∙ ap (take g.row.LEN) (four_named c.args.p.bytes (omega arith))
    ∙ ap (λ n. take n c.args.p.bytes) (sym c.requires.same_length))
    (omega (arith, length-take {A = ℕ}))

pub returns-clause-old : goal.returns-clause-old
unfolding old_of
returns-clause-old g c =
    old_bytes c.copy_from_slice.new.self (drop g.row.LEN (0 ∷ 0 ∷ 0 ∷ 0 ∷ [])) (drop c.args.p.at c.args.buf.now) _ c.args.p.len _
    c.copy_from_slice.ensures.after (omega (arith, length-take {A = ℕ}, c.copy_from_slice.ensures.len)) (omega (arith, length-take {A = ℕ}))
