use Rattle.std.proofs.Common.{ap, ◌∙◌}
use Rattle.elements.specs.Bear.{base, times}
use Rattle.elements.specs.Norm.{evenly}
use Rattle.elements.specs.BearProduct.{bear_inverse, bear_none}
use Rattle.elements.proofs.babybear.inverse.inverse.Goals as goal

pub returns : goal.returns
returns c =
    ap (times c.args.a) c.product.ensures
    ∙ bear_inverse c.args.a _ _ _ c.even_part-even.ensures c.odd_part-odd.ensures c.norm.ensures
    c.in_ok-y.y _ _ c.in_ok-y.ensures c.conjugated.ensures
    (c.even_element-other.ensures ∙ ap (λ z. evenly base z c.neg.result) c.mul.ensures
    ∙ ap (evenly base _) (c.neg.ensures ∙ ap base.minus c.mul-2.ensures))

pub returns-in_err-y : goal.returns-in_err-y
returns-in_err-y c =
    rw c.from_residual.ensures
    (bear_none c.args.a _ _ _ c.even_part-even.ensures c.odd_part-odd.ensures c.norm.ensures c.in_err-y.ensures)
