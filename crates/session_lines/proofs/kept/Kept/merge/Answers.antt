use Rattle.std.proofs.Common.{◌≡◌, ◌∙◌}
use Rattle.session_lines.specs.Keeping.{KeptValue, merged}
use Rattle.session_lines.proofs.kept.Kept.merge.Goals as goal

-- of what both are inside
merged_so : (result : KeptValue) (one other earlier later : KeptValue) → one ≡ earlier → other ≡ later → result ≡ merged one other → result ≡ merged earlier later
merged_so result one other earlier later first second is = is ∙ (λ i. merged (first i) (second i))

pub returns : goal.returns
returns g c =
    merged_so _ _ _ c.args.self c.args.later c.self.view_is c.later.view_is (λ i. record {
      desk = c.later_or.ensures i;
      press = c.later_or-2.ensures i;
      outlet = c.later_or-3.ensures i;
      journal_full = c.later_or-4.ensures i;
      nothing = c.later_or-5.ensures i;
      clock_range = c.later_or-6.ensures i;
      serial_end = c.later_or-7.ensures i;
      signer_fault = c.later_or-8.ensures i;
      key_clash = c.later_or-9.ensures i;
    })
