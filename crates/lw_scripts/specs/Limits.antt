-- The sizes of a stack.
use Rattle.std.specs.Prelude.{ℕ, ◌*◌, List, codes, max}
use Rattle.std.specs.Option.{unwrap_or}
use Rattle.lw_base.specs.declared.limits.Limits.{Limits}
use Rattle.script_words.specs.Calls.{variables_of}
use Rattle.script_words.specs.declared.version.Version.{Version}
use Rattle.lw_scripts.specs.declared.parts.Profile.{Profile}
use Rattle.lw_scripts.specs.declared.parts.Profile.TheVariants.{Default, Small, Wide}
use Rattle.lw_scripts.specs.declared.parts.Sizes.{Sizes}

-- the word of a profile
abbrev pub profile_word : Profile → List ℕ
profile_word Default = codes "default"
profile_word Small = codes "small"
profile_word Wide = codes "wide"

-- the sizes of a profile: pbufs of each kind, places of the two mailboxes, descriptors, octets of the receive
-- window, live connections, TCP ends and variables
abbrev pub profile_limits : Version → Profile → Limits
profile_limits version Default =
    record {
      ram = 256;
      pool = 256;
      rom = 16;
      reference = 64;
      mailbox = 8;
      tcpip = 64;
      descriptors = 32;
      window = 5840;
      live = 64;
      ends = 128;
      variables = variables_of version;
    }
profile_limits version Small =
    record {
      ram = 8;
      pool = 4;
      rom = 4;
      reference = 4;
      mailbox = 2;
      tcpip = 4;
      descriptors = 8;
      window = 5840;
      live = 64;
      ends = 128;
      variables = variables_of version;
    }
profile_limits version Wide =
    record {
      ram = 256;
      pool = 1024;
      rom = 16;
      reference = 64;
      mailbox = 8;
      tcpip = 64;
      descriptors = 32;
      window = 1048576;
      live = 64;
      ends = 128;
      variables = variables_of version;
    }

-- the sizes that a script names, else those of its profile. There are at least 64 live connections and one for
-- each descriptor, and twice as many TCP ends
abbrev pub limits_of : Version → Profile → Sizes → Limits
limits_of version profile sizes =
    let base = profile_limits version profile in
    let descriptors = unwrap_or sizes.descriptors base.descriptors in
    record {
      ram = unwrap_or sizes.ram base.ram;
      pool = unwrap_or sizes.pool base.pool;
      rom = unwrap_or sizes.rom base.rom;
      reference = unwrap_or sizes.reference base.reference;
      mailbox = unwrap_or sizes.mailbox base.mailbox;
      tcpip = unwrap_or sizes.tcpip base.tcpip;
      descriptors = descriptors;
      window = unwrap_or sizes.window base.window;
      live = max 64 descriptors;
      ends = max 128 (2 * descriptors);
      variables = base.variables;
    }
