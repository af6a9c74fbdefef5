pub mod Arp
pub mod Checksum
pub mod Eth
pub mod Fields
pub mod Icmp
pub mod Ip
pub mod Sums
pub mod Udp
