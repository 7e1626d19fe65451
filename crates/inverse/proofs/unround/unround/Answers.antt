-- `inverse::unround::unround` meets its contract: one step undone after the other.
-- Assumes nothing.
use mathlib.Core.Path.{sym, ap, ◌∙◌}
use mathlib.Core.List.{List}
use Prim.Native.Nat.{ℕ}
use Rattle.keccak.proofs.Steps.{iota_is}
use Rattle.inverse.specs.Inverse.{untheta, unrho, unpi, unchi, unround}
use Rattle.inverse.proofs.unround.unround.Goals as goal

pub returns : goal.returns
unfolding unround
returns c =
    let s = c.args in
    let chi-undone = c.unchi-c.ensures ∙ ap unchi (sym (iota_is s.a s.rc)) in
    c.untheta.ensures ∙ ap untheta (c.unrho_unpi-d.ensures ∙ ap (λ (b : List ℕ). unrho (unpi b)) chi-undone)
