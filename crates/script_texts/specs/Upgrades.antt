-- The script of version 2 that says what another says.
use Rattle.std.specs.Prelude.{◌≡◌, Some}
use Rattle.lw_base.specs.declared.limits.Limits.{Limits}
use Rattle.script_words.specs.declared.version.Version.{Version}
use Rattle.script_words.specs.declared.version.Version.TheVariants.{Two as SecondVersion}
use Rattle.lw_scripts.specs.declared.parts.Body.{Body}
use Rattle.lw_scripts.specs.declared.parts.Body.TheVariants.{One, Two}
use Rattle.lw_scripts.specs.declared.parts.Script.{Script}
use Rattle.lw_scripts.specs.declared.parts.Sizes.{Sizes}
use Rattle.lw_scripts.specs.declared.parts.Stack.{Stack}
use Rattle.lw_scripts.specs.Limits.{limits_of}

-- all eight sizes named
abbrev pub sizes_of : Limits → Sizes
sizes_of l = record {
  ram = Some l.ram;
  pool = Some l.pool;
  rom = Some l.rom;
  reference = Some l.reference;
  mailbox = Some l.mailbox;
  tcpip = Some l.tcpip;
  descriptors = Some l.descriptors;
  window = Some l.window;
}

-- a stack with all its sizes named
abbrev pub upgraded_stack : Version → Stack → Stack
upgraded_stack version stack = record stack { sizes = sizes_of (limits_of version stack.profile stack.sizes) }

-- what stands behind the head line, with all sizes named
abbrev pub upgraded_body : Version → Body → Body
upgraded_body version (One one) = One (record one { stack = upgraded_stack version one.stack })
upgraded_body version (Two two) = Two (record two { a = upgraded_stack version two.a; b = upgraded_stack version two.b })

-- a script of version 2 with all sizes named
abbrev pub upgraded : Script → Script
upgraded s = record { version = SecondVersion; body = upgraded_body s.version s.body }

-- a stack has the sizes that it had, but for the number of variables, which is the version's
abbrev pub HasSameSizes : Version → Stack → Type 0
HasSameSizes version stack =
    let before = limits_of version stack.profile stack.sizes in
    let after = limits_of SecondVersion stack.profile (upgraded_stack version stack).sizes in
    after ≡ record before { variables = after.variables }
