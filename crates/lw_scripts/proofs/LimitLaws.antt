-- How many descriptors a stack has at most.
use Rattle.std.proofs.Common.{◌≡◌, ℕ, ◌≤◌, Option, Some, None, sym, ap, ◌∙◌, subst, lit≤, unwrap_or}
use Rattle.lw_base.specs.declared.limits.Limits.{Limits}
use Rattle.script_words.specs.declared.version.Version.{Version}
use Rattle.lw_scripts.specs.declared.parts.Profile.{Profile}
use Rattle.lw_scripts.specs.declared.parts.Profile.TheVariants.{Default, Small, Wide}
use Rattle.lw_scripts.specs.declared.parts.SizeName.TheVariants.{Descriptors}
use Rattle.lw_scripts.specs.Limits.{profile_limits}
use Rattle.lw_scripts.specs.Parts.{IsSize}

profile_few : (version : Version) (profile : Profile) → (profile_limits version profile).descriptors ≤ 1024
profile_few version Default = lit≤ tt
profile_few version Small = lit≤ tt
profile_few version Wide = lit≤ tt

few : (version : Version) (profile : Profile) (o : Option ℕ) → IsSize version Descriptors o → unwrap_or o (profile_limits version profile).descriptors ≤ 1024
few version profile None h = profile_few version profile
few version profile (Some n) h = h.1.1

pub few_descriptors : (version : Version) (profile : Profile) (o : Option ℕ) (limits : Limits) (r : ℕ) → IsSize version Descriptors o → limits ≡ profile_limits version profile → r ≡ unwrap_or o limits.descriptors → r ≤ 1024
few_descriptors version profile o limits r h same is =
    subst (λ (n : ℕ). n ≤ 1024) (sym (is ∙ ap (λ (l : Limits). unwrap_or o l.descriptors) same)) (few version profile o h)
